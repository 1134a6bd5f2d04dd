-- The channels of all senders, one after another.
use Rattle.std.proofs.Common.{◌≡◌, ◌∙◌, ℕ, suc, ap, sym, refl, List, [], ◌∷◌, ◌++◌, length}
use Rattle.sender_merge.specs.declared.inlet.Inlet.{Inlet}
use Rattle.sender_merge.specs.declared.outlet.Outlet.{Outlet}
use Rattle.sender_merge.specs.inside.Gates.{AllEnds, AllFresh, IsFresh}
use Rattle.sender_merge.specs.inside.Inlets.{AllEmpty, AllSame}
use Rattle.sender_merge.specs.inside.Outlets.{AllEmpty as AllUnsent, AllSameOutlets}

-- the channels of one more sender
pub fresh-snoc : (h : ℕ) (os : List Outlet) (us ds : List Inlet) (o : Outlet) (u d : Inlet) → AllFresh h os us ds
    → IsFresh h o u d → AllFresh h (os ++ o ∷ []) (us ++ u ∷ []) (ds ++ d ∷ [])
fresh-snoc h [] [] [] o u d all one = (one, tt)
fresh-snoc h [] [] (e ∷ ds) o u d all one = absurd all
fresh-snoc h [] (v ∷ us) ds o u d all one = absurd all
fresh-snoc h (p ∷ os) [] ds o u d all one = absurd all
fresh-snoc h (p ∷ os) (v ∷ us) [] o u d all one = absurd all
fresh-snoc h (p ∷ os) (v ∷ us) (e ∷ ds) o u d all one = (all.0, fresh-snoc h os us ds o u d all.1 one)

-- what fresh channels are, part by part
pub record FreshParts (h : ℕ) (os : List Outlet) (us ds : List Inlet) : Type 0 where
  pub unsent : AllUnsent h os
  pub ups : AllEmpty h us
  pub downs : AllEmpty h ds
  pub ends : AllEnds os us ds
  pub ups_long : length us ≡ length os
  pub downs_long : length ds ≡ length os

pub fresh_parts : (h : ℕ) (os : List Outlet) (us ds : List Inlet) → AllFresh h os us ds → FreshParts h os us ds
fresh_parts h [] [] [] all =
    record { unsent = tt; ups = tt; downs = tt; ends = tt; ups_long = refl; downs_long = refl }
fresh_parts h [] [] (d ∷ ds) all = absurd all
fresh_parts h [] (u ∷ us) ds all = absurd all
fresh_parts h (o ∷ os) [] ds all = absurd all
fresh_parts h (o ∷ os) (u ∷ us) [] all = absurd all
fresh_parts h (o ∷ os) (u ∷ us) (d ∷ ds) all =
    let rest = fresh_parts h os us ds all.1 in
    record {
      unsent = (all.0.sent, rest.unsent);
      ups = (all.0.up_fresh, rest.ups);
      downs = (all.0.down_fresh, rest.downs);
      ends = (all.0.ends, rest.ends);
      ups_long = ap suc rest.ups_long;
      downs_long = ap suc rest.downs_long;
    }

-- the ends stay those of their channels, whatever went through
pub still_ends : (os os' : List Outlet) (us us' ds ds' : List Inlet) → AllEnds os us ds → AllSameOutlets os os'
    → AllSame us us' → AllSame ds ds' → AllEnds os' us' ds'
still_ends [] [] [] [] [] [] ends p q r = tt
still_ends [] [] [] [] [] (d' ∷ ds') ends p q r = absurd r
still_ends [] [] [] [] (d ∷ ds) ds' ends p q r = absurd ends
still_ends [] [] [] (u' ∷ us') ds ds' ends p q r = absurd q
still_ends [] [] (u ∷ us) us' ds ds' ends p q r = absurd ends
still_ends [] (o' ∷ os') us us' ds ds' ends p q r = absurd p
still_ends (o ∷ os) [] us us' ds ds' ends p q r = absurd p
still_ends (o ∷ os) (o' ∷ os') [] us' ds ds' ends p q r = absurd ends
still_ends (o ∷ os) (o' ∷ os') (u ∷ us) [] ds ds' ends p q r = absurd q
still_ends (o ∷ os) (o' ∷ os') (u ∷ us) (u' ∷ us') [] ds' ends p q r = absurd ends
still_ends (o ∷ os) (o' ∷ os') (u ∷ us) (u' ∷ us') (d ∷ ds) [] ends p q r = absurd r
still_ends (o ∷ os) (o' ∷ os') (u ∷ us) (u' ∷ us') (d ∷ ds) (d' ∷ ds') ends p q r = (
  record {
    up_channel = p.0.0.1 ∙ ends.0.up_channel ∙ sym q.0.1;
    down_channel = p.0.1.1 ∙ ends.0.down_channel ∙ sym r.0.1;
  },
  still_ends os os' us us' ds ds' ends.1 p.1 q.1 r.1,
)
