-- The text of fates. Each packet has a line, which is `N DIR departed MS`, `N DIR dropped SHELL MS`,
-- `N DIR inside SHELL` or `N DIR unsent`.
use Rattle.std.specs.Prelude.{ℕ, ◌++◌, List, codes, decimal}
use Rattle.std.specs.List.{flat_map}
use Rattle.packet_record.specs.Printing.{direction_text}
use Rattle.nest_spec.specs.declared.fate.Fate.{Fate}
use Rattle.nest_spec.specs.declared.fate.Fate.TheVariants as fates
use Rattle.nest_spec.specs.declared.fate.FateRow.{FateRow}

-- The text of a fate, without the packet's number and direction.
abbrev pub fate_text : Fate → List ℕ
fate_text (fates.Departed moment) = codes "departed " ++ decimal moment
fate_text (fates.Dropped shell moment) = codes "dropped " ++ decimal shell ++ codes " " ++ decimal moment
fate_text (fates.Inside shell) = codes "inside " ++ decimal shell
fate_text fates.Unsent = codes "unsent"

-- The line of a packet, with its line feed.
abbrev pub fate_line : FateRow → List ℕ
fate_line row = decimal row.id ++ direction_text row.direction ++ fate_text row.fate ++ codes "\n"

-- The lines of `rows`, in their order.
abbrev pub fates_text : List FateRow → List ℕ
fates_text rows = flat_map fate_line rows
