-- Beside Laws, for proofs alone: whether a sender may still send.
use Rattle.std.specs.Prelude.{◌≡◌, ◌⊎◌, List, [], ◌∷◌}
use Rattle.packet_record.specs.declared.item.FlowEnd.TheVariants.{Open}
use Rattle.sender_merge.specs.Inflows.{Inflow}

-- some sender may still send
abbrev pub SomeOpen : List Inflow → Type 0
SomeOpen [] = ⊥
SomeOpen (s ∷ senders) = (s.flow.end ≡ Open) ⊎ SomeOpen senders
