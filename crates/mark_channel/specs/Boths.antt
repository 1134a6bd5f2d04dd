-- What holds in both directions.
use Rattle.packet_record.specs.declared.both.Both.{Both}
use Rattle.packet_record.specs.declared.packet.Direction.{Direction}
use Rattle.packet_record.specs.declared.packet.Direction.TheVariants.{Up, Down}

-- `P` holds in both directions.
abbrev pub OfBoth : {T : Type 0} → (T → Type 0) → Both T → Type 0
OfBoth P both = P both.up × P both.down

-- `P` holds in each direction, which it is told.
abbrev pub ByDirection : {T : Type 0} → (Direction → T → Type 0) → Both T → Type 0
ByDirection P both = P Up both.up × P Down both.down

-- `P` holds of what was and what is, in both directions.
abbrev pub BothKeep : {T : Type 0} → (T → T → Type 0) → Both T → Both T → Type 0
BothKeep P old new = P old.up new.up × P old.down new.down
