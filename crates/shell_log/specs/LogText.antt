-- The text of a log.
use Rattle.std.specs.Prelude.{ℕ, List, [], ◌∷◌, ◌++◌, codes, decimal}
use Rattle.std.specs.List.{flat_map}
use Rattle.shell_log.specs.declared.entry.Entry.{Entry}
use Rattle.shell_log.specs.declared.entry.Entry.TheVariants.{Arrival, Opportunity, Departure, Drop}
use Rattle.shell_log.specs.Words.{spaced}

abbrev pub header : List ℕ
header = codes "# base timestamp: 0"

-- `MS + SIZE`, `MS # BYTES`, `MS - SIZE DELAY` and `MS d PACKETS BYTES`
abbrev pub line_of : Entry → List ℕ
line_of (Arrival moment size) = spaced (decimal moment ∷ codes "+" ∷ decimal size ∷ [])
line_of (Opportunity moment bytes) = spaced (decimal moment ∷ codes "#" ∷ decimal bytes ∷ [])
line_of (Departure moment size delay) = spaced (decimal moment ∷ codes "-" ∷ decimal size ∷ decimal delay ∷ [])
line_of (Drop moment packets bytes) = spaced (decimal moment ∷ codes "d" ∷ decimal packets ∷ decimal bytes ∷ [])

-- lines, each ended by a line feed
abbrev pub lines_text : List Entry → List ℕ
lines_text entries = flat_map (λ e. line_of e ++ 10 ∷ []) entries

-- the first line, and a line for each entry
abbrev pub log_text : List Entry → List ℕ
log_text entries = header ++ 10 ∷ lines_text entries
