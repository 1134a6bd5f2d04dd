-- The text of a schedule as it is printed.
use Rattle.std.specs.Prelude.{ℕ, List, [], ◌∷◌, ◌++◌, codes, decimal}
use Rattle.std.specs.List.{flat_map}
use Rattle.packet_record.specs.declared.packet.Direction.{Direction}
use Rattle.packet_record.specs.declared.packet.Direction.TheVariants.{Up, Down}
use Rattle.packet_record.specs.declared.packet.Row.{Row}

-- the direction's word between two spaces
abbrev pub direction_text : Direction → List ℕ
direction_text Up = codes " up "
direction_text Down = codes " down "

-- moment, direction and size on a line that ends in a line feed
abbrev pub row_text : Row → List ℕ
row_text row = decimal row.timed.moment ++ direction_text row.direction ++ decimal row.timed.packet.size ++ 10 ∷ []

abbrev pub schedule_text : List Row → List ℕ
schedule_text rows = flat_map row_text rows
