-- For proofs alone: where the rows of numbers stand.
use Rattle.std.specs.Prelude.{List}
use Rattle.packet_record.specs.declared.packet.Row.{Row}
use Rattle.nest_spec.specs.inside.Index.{IsIndex, AreFromOne, AreListed}
use Rattle.nest_spec.specs.declared.places.Places.{Places}
use Rattle.nest_spec.specs.declared.places.Places.TheVariants.{Numbered, Listed, Indexed}

-- The places are those of the rows.
abbrev pub ArePlaces : List Row → Places → Type 0
ArePlaces rows Numbered = AreFromOne rows
ArePlaces rows (Listed lists) = AreListed rows lists.items
ArePlaces rows (Indexed index) = IsIndex rows index
