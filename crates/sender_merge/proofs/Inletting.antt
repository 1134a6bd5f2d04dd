-- The receiving ends of a direction, one by one.
use Rattle.std.proofs.Common.{◌≡◌, ◌≢◌, ⊎_elim, ℕ, zero, suc, ◌+◌, ◌<◌, ◌≤◌, true, List, [], ◌∷◌, length}
use Rattle.std.proofs.Common.{get_or, set}
use Rattle.std.proofs.Common.{take, replicate, refl, ap, sym, subst, ◌∙◌, arith}
use Rattle.std.proofs.Common.{Option, Some, None, IfNone, IfSome, Result, Ok, Err, OnOk, OnErr}
use Rattle.std.specs.List.{list_all}
use Rattle.std.proofs.lemmas.Bool.{and_parts}
use Rattle.packet_record.specs.declared.packet.Timed.{Timed}
use Rattle.packet_record.specs.declared.item.Item.{Item}
use Rattle.packet_record.specs.declared.item.Item.TheVariants.{Packet, Mark, End, Broken}
use Rattle.packet_record.specs.declared.item.FlowEnd.{FlowEnd}
use Rattle.packet_record.specs.declared.item.FlowEnd.TheVariants.{Open, Ended, Broken as Cut}
use Rattle.packet_record.specs.Moments.{AreUpTo}
use Rattle.packet_record.specs.Streams.{Stream, after, IsUpTo}
use Rattle.packet_record.proofs.MomentsLemmas.{up_to-append}
use Rattle.mark_channel.specs.Ends.{End as ChannelEnd, IsSameEnd}
use Rattle.sender_merge.specs.declared.inlet.Inlet.{Inlet}
use Rattle.sender_merge.specs.declared.step.MergeStep.{MergeStep}
use Rattle.sender_merge.specs.declared.step.MergeStep.TheVariants.{Item as Gives, Need}
use Rattle.sender_merge.specs.Inflows.{Inflow, Merging, fresh, has_ended, is_ended, with_passed}
use Rattle.sender_merge.specs.Steps.{after_step, candidate, passing, senders_after}
use Rattle.sender_merge.specs.Laws.{AllUpTo, IsMergeFront, packets_of}
use Rattle.sender_merge.specs.inside.Laws.{SomeOpen}
use Rattle.sender_merge.specs.inside.Inlets.{AllClosed, AllEmpty, AllEnded, AllSame, AllWithin, AreAdded, IsMerged}
use Rattle.sender_merge.specs.inside.Inlets.{bound_at, received, IsFurther, IsFurthestBehind, IsOpenAt}
use borrow.Author.Count.{below_more}
use Rattle.sender_merge.specs.Merges.{merge}
use Rattle.sender_merge.specs.declared.step.Head.{Head}

pub open-here : (place : ℕ) (inlets : List Inlet) (d : Inlet) → place < length inlets
    → (get_or inlets place d).from.flow.end ≡ Open → IsOpenAt place inlets
open-here place [] d lt is = absurd (omega arith)
open-here zero (i ∷ inlets) d lt is = is
open-here (suc place) (i ∷ inlets) d lt is = open-here place inlets d (omega arith) is

pub open-within : (place : ℕ) (inlets : List Inlet) → IsOpenAt place inlets → place < length inlets
open-within place [] is = absurd is
open-within zero (i ∷ inlets) is = omega arith
open-within (suc place) (i ∷ inlets) is = let rest = open-within place inlets is in omega arith

pub open-at : (place : ℕ) (inlets : List Inlet) (d : Inlet) → IsOpenAt place inlets
    → (get_or inlets place d).from.flow.end ≡ Open
open-at place [] d is = absurd is
open-at zero (i ∷ inlets) d is = is
open-at (suc place) (i ∷ inlets) d is = open-at place inlets d is

pub closed-more : (n : ℕ) (inlets : List Inlet) (d : Inlet) → n < length inlets → AllClosed (take n inlets)
    → (get_or inlets n d).from.flow.end ≢ Open → AllClosed (take (n + 1) inlets)
closed-more n inlets d lt all one = let e : suc n ≡ n + 1 = omega arith in
    subst (λ (k : ℕ). AllClosed (take k inlets)) e (go n inlets lt all one) where
      go : (n : ℕ) (inlets : List Inlet) → n < length inlets → AllClosed (take n inlets)
          → (get_or inlets n d).from.flow.end ≢ Open → AllClosed (take (suc n) inlets)
      go n [] lt all one = absurd (omega arith)
      go zero (i ∷ inlets) lt all one = (one, tt)
      go (suc n) (i ∷ inlets) lt all one = (all.0, go n inlets (omega arith) all.1 one)

pub bound-at : (place : ℕ) (inlets : List Inlet) (d : Inlet) → place < length inlets
    → bound_at place inlets ≡ (get_or inlets place d).from.flow.bound
bound-at place [] d lt = absurd (omega arith)
bound-at zero (i ∷ inlets) d lt = refl
bound-at (suc place) (i ∷ inlets) d lt = bound-at place inlets d (omega arith)

closed-before : (k place : ℕ) (inlets : List Inlet) → k < place → AllClosed (take place inlets) → IsOpenAt k inlets → ⊥
closed-before k place [] lt all is = is
closed-before k zero (i ∷ inlets) lt all is = omega arith
closed-before zero (suc place) (i ∷ inlets) lt all is = all.0 is
closed-before (suc k) (suc place) (i ∷ inlets) lt all is = closed-before k place inlets (omega arith) all.1 is

-- `p` is the least of the open places before `place`, with its bound
pub record IsLeastOf (place : ℕ) (inlets : List Inlet) (p : ℕ × ℕ) : Type 0 where
  pub within : p.0 < place
  pub going : IsOpenAt p.0 inlets
  pub bound : p.1 ≡ bound_at p.0 inlets
  pub least : (k : ℕ) → k < place → IsOpenAt k inlets → p.1 ≤ bound_at k inlets
  pub first : (k : ℕ) → k < p.0 → IsOpenAt k inlets → p.1 < bound_at k inlets

-- `least` is the least of the open places before `place`, if there is one
pub record IsFurthest (place : ℕ) (inlets : List Inlet) (least : Option (ℕ × ℕ)) : Type 0 where
  pub some : IfSome least (λ (p : ℕ × ℕ). IsLeastOf place inlets p)
  pub none : IfNone least (AllClosed (take place inlets))

-- a bound below the least so far is below those of all open places before
below-all : (place b : ℕ) (inlets : List Inlet) (old : Option (ℕ × ℕ)) → IsFurthest place inlets old
    → IfSome old (λ (q : ℕ × ℕ). b < q.1) → (k : ℕ) → k < place → IsOpenAt k inlets → b < bound_at k inlets
below-all place b inlets None was lt k before is = absurd (closed-before k place inlets before was.none is)
below-all place b inlets (Some q) was lt k before is = let le = was.some.least k before is in omega arith

still-least : (place : ℕ) (inlets : List Inlet) (i : Inlet) (p : ℕ × ℕ) → place < length inlets
    → i ≡ get_or inlets place i → IsLeastOf place inlets p → (i.from.flow.end ≡ Open → p.1 ≤ i.from.flow.bound)
    → IsLeastOf (place + 1) inlets p
still-least place inlets i p lt at was le = record {
  within = (let before = was.within in omega arith);
  going = was.going;
  bound = was.bound;
  least = below_more (λ (k : ℕ). IsOpenAt k inlets → p.1 ≤ bound_at k inlets) place was.least
      (λ (is : IsOpenAt place inlets).
      let one = le (ap (λ (j : Inlet). j.from.flow.end) at ∙ open-at place inlets i is) in
      let same = bound-at place inlets i lt ∙ ap (λ (j : Inlet). j.from.flow.bound) (sym at) in omega arith);
  first = was.first;
}

new-least : (place : ℕ) (inlets : List Inlet) (i : Inlet) (old : Option (ℕ × ℕ)) (p : ℕ × ℕ) → place < length inlets
    → i ≡ get_or inlets place i → IsFurthest place inlets old → p.0 ≡ place → p.1 ≡ i.from.flow.bound
    → i.from.flow.end ≡ Open → IfSome old (λ (q : ℕ × ℕ). i.from.flow.bound < q.1) → IsLeastOf (place + 1) inlets p
new-least place inlets i old p lt at was is bound going less =
    let same : bound_at place inlets ≡ i.from.flow.bound =
    bound-at place inlets i lt ∙ ap (λ (j : Inlet). j.from.flow.bound) (sym at) in
    let below = below-all place i.from.flow.bound inlets old was less in
    record {
      within = omega arith;
      going = subst (λ (n : ℕ). IsOpenAt n inlets) (sym is)
          (open-here place inlets i lt (subst (λ (j : Inlet). j.from.flow.end ≡ Open) at going));
      bound = bound ∙ sym same ∙ ap (λ (n : ℕ). bound_at n inlets) (sym is);
      least = below_more (λ (k : ℕ). IsOpenAt k inlets → p.1 ≤ bound_at k inlets) place
          (λ k before open'. let one = below k before open' in omega arith)
          (λ (open' : IsOpenAt place inlets). omega arith);
      first = λ k before open'. let one = below k (omega arith) open' in omega arith;
    }

-- the least so far with one place more
pub furthest-more : (place : ℕ) (inlets : List Inlet) (i : Inlet) (old new : Option (ℕ × ℕ)) → place < length inlets
    → i ≡ get_or inlets place i → IsFurthest place inlets old → IfSome new (IsFurther old place i)
    → IfNone new ((old ≡ None) × (i.from.flow.end ≢ Open)) → IsFurthest (place + 1) inlets new
furthest-more place inlets i old None lt at was some none =
    let before : IfNone {T = ℕ × ℕ} None (AllClosed (take place inlets)) =
    subst (λ (o : Option (ℕ × ℕ)). IfNone o (AllClosed (take place inlets))) none.0 was.none in
    record {
      some = tt;
      none = closed-more place inlets i lt before (subst (λ (j : Inlet). j.from.flow.end ≢ Open) at none.1);
    }
furthest-more place inlets i old (Some p) lt at was some none = record {
  some = ⊎_elim
      (λ (kept : (old ≡ Some p) × (i.from.flow.end ≡ Open → p.1 ≤ i.from.flow.bound)).
      still-least place inlets i p lt at
      (subst (λ (o : Option (ℕ × ℕ)). IfSome o (λ (q : ℕ × ℕ). IsLeastOf place inlets q)) kept.0 was.some) kept.1)
      (λ (here : (p.0 ≡ place) × (p.1 ≡ i.from.flow.bound) × (i.from.flow.end ≡ Open)
      × IfSome old (λ (q : ℕ × ℕ). i.from.flow.bound < q.1)).
      new-least place inlets i old p lt at was here.0 here.1 here.2 here.3)
      some;
  none = tt;
}

-- after the last place the least so far is the least of all
pub furthest-of : (place : ℕ) (inlets : List Inlet) (p : ℕ × ℕ) → length inlets ≤ place → IsLeastOf place inlets p
    → IsFurthestBehind p.0 inlets
furthest-of place inlets p whole is = record {
  going = is.going;
  least = λ k open'.
      let within = open-within k inlets open' in
      let one = is.least k (omega arith) open' in
      let same = is.bound in omega arith;
  first = λ k before open'. let one = is.first k before open' in let same = is.bound in omega arith;
}

pub same-all : (inlets : List Inlet) → AllSame inlets inlets
same-all [] = tt
same-all (i ∷ inlets) = ((refl, refl), same-all inlets)

pub same-set : (old inlets : List Inlet) (place : ℕ) (new d : Inlet) → place < length inlets → AllSame old inlets
    → IsSameEnd (get_or inlets place d).from new.from → AllSame old (set inlets place new)
same-set [] [] place new d lt same one = absurd (omega arith)
same-set [] (i ∷ inlets) place new d lt same one = absurd same
same-set (o ∷ old) [] place new d lt same one = absurd same
same-set (o ∷ old) (i ∷ inlets) zero new d lt same one =
    ((one.0 ∙ same.0.0, one.1 ∙ same.0.1), same.1)
same-set (o ∷ old) (i ∷ inlets) (suc place) new d lt same one =
    (same.0, same-set old inlets place new d (omega arith) same.1 one)

pub same-on : (a b c : List Inlet) → AllSame a b → AllSame b c → AllSame a c
same-on [] [] [] p q = tt
same-on [] [] (z ∷ c) p q = q
same-on [] (y ∷ b) c p q = absurd p
same-on (x ∷ a) [] c p q = absurd p
same-on (x ∷ a) (y ∷ b) [] p q = absurd q
same-on (x ∷ a) (y ∷ b) (z ∷ c) p q = ((q.0.0 ∙ p.0.0, q.0.1 ∙ p.0.1), same-on a b c p.1 q.1)

-- there is a sender for each inlet
pub added-long : (inlets : List Inlet) (senders : List Inflow) → AreAdded inlets senders
    → length senders ≡ length inlets
added-long [] [] all = refl
added-long [] (s ∷ senders) all = absurd all
added-long (i ∷ inlets) [] all = absurd all
added-long (i ∷ inlets) (s ∷ senders) all = ap suc (added-long inlets senders all.1)

-- what was added of the sender at a place is what was received there
pub added-at : (place : ℕ) (inlets : List Inlet) (senders : List Inflow) (d : Inlet) → place < length inlets
    → AreAdded inlets senders → (get_or senders place fresh).flow ≡ (get_or inlets place d).from.flow
added-at place [] senders d lt all = absurd (omega arith)
added-at place (i ∷ inlets) [] d lt all = absurd all
added-at zero (i ∷ inlets) (s ∷ senders) d lt all = all.0
added-at (suc place) (i ∷ inlets) (s ∷ senders) d lt all = added-at place inlets senders d (omega arith) all.1

-- one item more, received and added
pub added-set : (place : ℕ) (inlets : List Inlet) (senders : List Inflow) (new : Inlet) (s : Inflow)
    → AreAdded inlets senders → s.flow ≡ new.from.flow → AreAdded (set inlets place new) (set senders place s)
added-set place [] [] new s all is = tt
added-set place [] (t ∷ senders) new s all is = absurd all
added-set place (i ∷ inlets) [] new s all is = absurd all
added-set zero (i ∷ inlets) (t ∷ senders) new s all is = (is, all.1)
added-set (suc place) (i ∷ inlets) (t ∷ senders) new s all is = (all.0, added-set place inlets senders new s all.1 is)

within-item : (h : ℕ) (f : Stream) (x : Item) → IsUpTo h x → AreUpTo h f.packets × (f.bound ≤ h + 1)
    → AreUpTo h (after f x).packets × ((after f x).bound ≤ h + 1)
within-item h f (Packet t) up all = (up_to-append h f.packets (t ∷ []) all.0 (up, tt), omega arith)
within-item h f (Mark m) up all = (all.0, up)
within-item h f End up all = all
within-item h f Broken up all = all

pub within-set : (h place : ℕ) (inlets : List Inlet) (new d : Inlet) (x : Item) → AllWithin h inlets
    → IsUpTo (get_or inlets place d).from.horizon x → new.from.flow ≡ after (get_or inlets place d).from.flow x
    → new.from.horizon ≡ (get_or inlets place d).from.horizon → AllWithin h (set inlets place new)
within-set h place [] new d x all up is same = tt
within-set h zero (i ∷ inlets) new d x all up is same =
    let upto : IsUpTo h x = subst (λ (k : ℕ). IsUpTo k x) all.0.0 up in
    let one = within-item h i.from.flow x upto (all.0.1, all.0.2) in (
      (
        same ∙ all.0.0,
        subst (λ (f : Stream). AreUpTo h f.packets) (sym is) one.0,
        subst (λ (f : Stream). f.bound ≤ h + 1) (sym is) one.1,
      ),
      all.1,
    )
within-set h (suc place) (i ∷ inlets) new d x all up is same =
    (all.0, within-set h place inlets new d x all.1 up is same)

-- no sender is open where all inlets are closed
pub none-open : (inlets : List Inlet) (senders : List Inflow) → AreAdded inlets senders → AllClosed inlets
    → SomeOpen senders → ⊥
none-open [] [] all closed open' = open'
none-open [] (s ∷ senders) all closed open' = all
none-open (i ∷ inlets) [] all closed open' = all
none-open (i ∷ inlets) (s ∷ senders) all closed open' = ⊎_elim
    (λ (here : s.flow.end ≡ Open). closed.0 (sym (ap (λ (f : Stream). f.end) all.0) ∙ here))
    (λ (there : SomeOpen senders). none-open inlets senders all.1 closed.1 there) open'

-- a packet that is given changes no flow that was added
added-given : (inlets : List Inlet) (senders : List Inflow) (n : ℕ) → AreAdded inlets senders
    → AreAdded inlets (set senders n (with_passed (get_or senders n fresh)))
added-given [] [] n all = tt
added-given [] (s ∷ senders) n all = absurd all
added-given (i ∷ inlets) [] n all = absurd all
added-given (i ∷ inlets) (s ∷ senders) zero all = (all.0, all.1)
added-given (i ∷ inlets) (s ∷ senders) (suc n) all = (all.0, added-given inlets senders n all.1)

added-passing : (inlets : List Inlet) (senders : List Inflow) (o : Option Head) → AreAdded inlets senders
    → AreAdded inlets (passing o senders)
added-passing inlets senders None all = all
added-passing inlets senders (Some c) all = added-given inlets senders _ all

pub added-item : (inlets : List Inlet) (senders : List Inflow) (x : Item) → AreAdded inlets senders
    → AreAdded inlets (senders_after senders x)
added-item inlets senders (Packet t) all = added-passing inlets senders (candidate senders) all
added-item inlets senders (Mark m) all = all
added-item inlets senders End all = all
added-item inlets senders Broken all = all

pub added-within : (h : ℕ) (inlets : List Inlet) (senders : List Inflow) → AreAdded inlets senders
    → AllWithin h inlets → AllUpTo h senders
added-within h [] [] all within = tt
added-within h [] (s ∷ senders) all within = absurd all
added-within h (i ∷ inlets) [] all within = absurd all
added-within h (i ∷ inlets) (s ∷ senders) all within = (
  (
    subst (λ (f : Stream). AreUpTo h f.packets) (sym all.0) within.0.1,
    subst (λ (f : Stream). f.bound ≤ h + 1) (sym all.0) within.0.2,
  ),
  added-within h inlets senders all.1 within.1,
)

pub added-packets : (inlets : List Inlet) (senders : List Inflow) → AreAdded inlets senders
    → packets_of senders ≡ received inlets
added-packets [] [] all = refl
added-packets [] (s ∷ senders) all = absurd all
added-packets (i ∷ inlets) [] all = absurd all
added-packets (i ∷ inlets) (s ∷ senders) all =
    ap (λ (f : Stream). f.packets ∷ packets_of senders) all.0
    ∙ ap (λ (ts : List (List Timed)). i.from.flow.packets ∷ ts) (added-packets inlets senders all.1)

is_over : (e : FlowEnd) → is_ended e ≡ true → e ≡ Ended
is_over Open is = absurd cc
is_over Ended is = refl
is_over Cut is = absurd cc

pub added-ended : (inlets : List Inlet) (senders : List Inflow) → AreAdded inlets senders
    → list_all has_ended senders ≡ true → AllEnded inlets
added-ended [] [] all over = tt
added-ended [] (s ∷ senders) all over = absurd all
added-ended (i ∷ inlets) [] all over = absurd all
added-ended (i ∷ inlets) (s ∷ senders) all over =
    let both = and_parts (has_ended s) (list_all has_ended senders) over in (
      subst (λ (f : Stream). f.end ≡ Ended) all.0 (is_over s.flow.end both.0),
      added-ended inlets senders all.1 both.1,
    )

over_not_open : (e : FlowEnd) → e ≡ Ended → e ≢ Open
over_not_open Open is = absurd cc
over_not_open Ended is = λ p. cc
over_not_open Cut is = absurd cc

pub ended-closed : (inlets : List Inlet) → AllEnded inlets → AllClosed inlets
ended-closed [] all = tt
ended-closed (i ∷ inlets) all = (over_not_open i.from.flow.end all.0, ended-closed inlets all.1)

-- before anything was received, what was received is up to the horizon
pub empty-within : (h : ℕ) (inlets : List Inlet) → AllEmpty h inlets → AllWithin h inlets
empty-within h [] all = tt
empty-within h (i ∷ inlets) all = (
  (
    all.0.1,
    subst (λ (f : Stream). AreUpTo h f.packets) (sym all.0.0) tt,
    subst (λ (f : Stream). f.bound ≤ h + 1) (sym all.0.0) (omega arith),
  ),
  empty-within h inlets all.1,
)

pub empty-added : (h : ℕ) (inlets : List Inlet) → AllEmpty h inlets
    → AreAdded inlets (replicate (length inlets) fresh)
empty-added h [] all = tt
empty-added h (i ∷ inlets) all = (sym all.0.0, empty-added h inlets all.1)

-- what follows from a value of a call that went well
pub on_ok : {A E : Type 0} (r : Result A E) (P Q : Type 0) → (P → Q) → OnOk r P → OnOk r Q
on_ok (Ok a) P Q f h = f h
on_ok (Err e) P Q f h = h

pub on_err : {A E : Type 0} (r : Result A E) (P Q : Type 0) → (P → Q) → OnErr r P → OnErr r Q
on_err (Ok a) P Q f h = h
on_err (Err e) P Q f h = f h

-- what was given to the end is the merge of what was received
pub merged : (inlets : List Inlet) (m : Merging) (sent : Stream) → AreAdded inlets m.senders → IsMergeFront m
    → m.given.end ≡ Ended → sent ≡ m.given → AllClosed inlets × IsMerged inlets sent
merged inlets m sent all front over is =
    let ended = added-ended inlets m.senders all (front.ended over) in (
      ended-closed inlets ended,
      (
        ap (λ (f : Stream). f.packets) is ∙ front.whole over ∙ ap merge (added-packets inlets m.senders all),
        ap (λ (f : Stream). f.end) is ∙ over,
        ended,
      ),
    )

-- a step changes no flow that was added
pub added-step : (inlets : List Inlet) (old new : Merging) (step : MergeStep) → new ≡ after_step old step
    → AreAdded inlets old.senders → AreAdded inlets new.senders
added-step inlets old new (Gives x) is all =
    subst (λ (m : Merging). AreAdded inlets m.senders) (sym is) (added-item inlets old.senders x all)
added-step inlets old new (Need sender) is all = subst (λ (m : Merging). AreAdded inlets m.senders) (sym is) all

-- the end of the flow given after a step that gives an item
pub end-after : (old new : Merging) (step : MergeStep) (x : Item) → new ≡ after_step old step → step ≡ Gives x
    → new.given.end ≡ (after old.given x).end
end-after old new step x is gives =
    ap (λ (m : Merging). m.given.end) is ∙ ap (λ (s : MergeStep). (after_step old s).given.end) gives

-- what holds while a merge goes on: what was sent is what was given, and what was received is what was added
abbrev pub Goes : List Inlet → List Inlet → Merging → ChannelEnd → ChannelEnd → Type 0
Goes before inlets core first to = (to.flow.end ≡ Open) × (core.given ≡ to.flow) × AreAdded inlets core.senders
    × AllWithin to.horizon inlets × AllSame before inlets × IsSameEnd first to

-- `Goes` still holds where a step gives an item that is sent
pub sent-on : (before inlets : List Inlet) (core new : Merging) (first to sent : ChannelEnd) (step : MergeStep)
    (x : Item) → Goes before inlets core first to → new ≡ after_step core step → step ≡ Gives x
    → (after core.given x).end ≡ core.given.end → sent.flow ≡ new.given → IsSameEnd to sent
    → Goes before inlets new first sent
sent-on before inlets core new first to sent step x i is gives goes alike same = (
  ap (λ (f : Stream). f.end) alike ∙ end-after core new step x is gives ∙ goes ∙ ap (λ (f : Stream). f.end) i.1 ∙ i.0,
  sym alike,
  added-step inlets core new step is i.2,
  subst (λ (h : ℕ). AllWithin h inlets) (sym same.0) i.3,
  i.4,
  (same.0 ∙ i.5.0, same.1 ∙ i.5.1),
)

-- `Goes` still holds where a sender is needed, nothing is sent, and one item more is received
pub received-on : (before inlets received : List Inlet) (core new added : Merging) (first to sent : ChannelEnd)
    → Goes before inlets core first to → new ≡ core → sent.flow ≡ new.given → IsSameEnd to sent
    → added.given ≡ new.given → AreAdded received added.senders → AllWithin to.horizon received
    → AllSame inlets received → Goes before received added first sent
received-on before inlets received core new added first to sent i is alike same given all within same' = (
  ap (λ (f : Stream). f.end) alike ∙ ap (λ (m : Merging). m.given.end) is ∙ ap (λ (f : Stream). f.end) i.1 ∙ i.0,
  given ∙ sym alike,
  all,
  subst (λ (h : ℕ). AllWithin h received) (sym same.0) within,
  same-on before inlets received i.4 same',
  (same.0 ∙ i.5.0, same.1 ∙ i.5.1),
)
