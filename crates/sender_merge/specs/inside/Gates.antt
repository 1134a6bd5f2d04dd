-- The channels of all senders: of each sender its sending ends, and its receiving ends in both directions.
use Rattle.std.specs.Prelude.{◌≡◌, ℕ, List, [], ◌∷◌}
use Rattle.packet_record.specs.Streams.{no_items}
use Rattle.sender_merge.specs.declared.inlet.Inlet.{Inlet}
use Rattle.sender_merge.specs.declared.outlet.Outlet.{Outlet}
use Rattle.sender_merge.specs.inside.Outlets.{IsEmpty}

-- The ends of a sender are those of two channels, one in each direction.
pub record AreEnds (o : Outlet) (up down : Inlet) : Type 0 where
  pub up_channel : o.heads.up.channel ≡ up.from.channel
  pub down_channel : o.heads.down.channel ≡ down.from.channel

-- Nothing has gone through a sender's channels, and both have `horizon`.
pub record IsFresh (horizon : ℕ) (o : Outlet) (up down : Inlet) : Type 0 where
  pub ends : AreEnds o up down
  pub sent : IsEmpty horizon o
  pub up_fresh : (up.from.flow ≡ no_items) × (up.from.horizon ≡ horizon)
  pub down_fresh : (down.from.flow ≡ no_items) × (down.from.horizon ≡ horizon)

abbrev pub AllEnds : List Outlet → List Inlet → List Inlet → Type 0
AllEnds [] [] [] = Unit {0}
AllEnds [] [] (d ∷ downs) = ⊥
AllEnds [] (u ∷ ups) downs = ⊥
AllEnds (o ∷ outlets) [] downs = ⊥
AllEnds (o ∷ outlets) (u ∷ ups) [] = ⊥
AllEnds (o ∷ outlets) (u ∷ ups) (d ∷ downs) = AreEnds o u d × AllEnds outlets ups downs

abbrev pub AllFresh : ℕ → List Outlet → List Inlet → List Inlet → Type 0
AllFresh horizon [] [] [] = Unit {0}
AllFresh horizon [] [] (d ∷ downs) = ⊥
AllFresh horizon [] (u ∷ ups) downs = ⊥
AllFresh horizon (o ∷ outlets) [] downs = ⊥
AllFresh horizon (o ∷ outlets) (u ∷ ups) [] = ⊥
AllFresh horizon (o ∷ outlets) (u ∷ ups) (d ∷ downs) = IsFresh horizon o u d × AllFresh horizon outlets ups downs

-- All that a sender sent was received, its end too.
pub record IsSettled (o : Outlet) (up down : Inlet) : Type 0 where
  pub up_flow : up.from.flow ≡ o.heads.up.flow
  pub down_flow : down.from.flow ≡ o.heads.down.flow

abbrev pub AreSettled : List Outlet → List Inlet → List Inlet → Type 0
AreSettled [] [] [] = Unit {0}
AreSettled [] [] (d ∷ downs) = ⊥
AreSettled [] (u ∷ ups) downs = ⊥
AreSettled (o ∷ outlets) [] downs = ⊥
AreSettled (o ∷ outlets) (u ∷ ups) [] = ⊥
AreSettled (o ∷ outlets) (u ∷ ups) (d ∷ downs) = IsSettled o u d × AreSettled outlets ups downs
