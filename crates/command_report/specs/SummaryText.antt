-- The text of a summary: seven lines, each with a name and a number.
use Rattle.std.specs.Prelude.{◌≡◌, ℕ, List, [], ◌∷◌, ◌++◌, length, Option, Some, None, codes, decimal}
use Rattle.packet_record.specs.declared.packet.Row.{Row}
use Rattle.nest_spec.specs.declared.fate.FateRow.{FateRow}
use Rattle.nest_spec.specs.Nests.{NestParts, result_of}
use Rattle.command_report.specs.Made.{AreMadeRows, IsMadeNest, made_horizon}
use Rattle.command_report.specs.Summaries.{departed_bytes, departures, greatest, how_many, is_departed, is_dropped}
use Rattle.command_report.specs.Summaries.{is_inside, is_unsent}

-- The line of a name, which ends with a space, and a number.
abbrev pub number_line : List ℕ → ℕ → List ℕ
number_line name n = name ++ (decimal n ++ 10 ∷ [])

-- The line of the last departure: its moment, or `none`.
abbrev pub last_line : Option ℕ → List ℕ
last_line None = codes "last none" ++ 10 ∷ []
last_line (Some moment) = number_line (codes "last ") moment

-- The text of the summary of rows and their fates, which stand in the same order.
abbrev pub summary_lines : List Row → List FateRow → List ℕ
summary_lines rows fates =
    number_line (codes "packets ") (length rows)
    ++ number_line (codes "departed ") (how_many is_departed fates)
    ++ number_line (codes "dropped ") (how_many is_dropped fates)
    ++ number_line (codes "inside ") (how_many is_inside fates)
    ++ number_line (codes "unsent ") (how_many is_unsent fates)
    ++ number_line (codes "bytes ") (departed_bytes rows fates)
    ++ last_line (greatest (departures fates))

-- `text` is the summary of the run that is made of `number`, with `packets` packets.
pub record IsSummary (number packets : ℕ) (text : List ℕ) : Type 0 where
  pub rows : List Row
  pub nest : NestParts
  pub load : AreMadeRows number packets rows
  pub nest_is : IsMadeNest number (made_horizon rows) nest
  pub text_is : text ≡ summary_lines rows (result_of nest rows).fates
