-- What a reader of a log's report has read.
use Rattle.std.specs.Prelude.{◌≡◌, ℕ, List, ◌++◌, None}
use Rattle.shell_log.specs.declared.entry.Entry.{Entry}
use Rattle.shell_log.specs.LogParts.{IsLeft}
use Rattle.log_report.specs.declared.builder.ReportBuilder.{ReportBuilder}
use Rattle.log_report.specs.Summed.{AreSums}

-- Of the text `whole` all but `rest` was read. The sums are those of the entries that were read, unless a line was
-- refused.
abbrev pub IsSummed : List ℕ → List ℕ → ReportBuilder → Type 0
IsSummed whole rest r = (es : List Entry) × IsLeft whole rest es r.parser × (r.parser.refused ≡ None → AreSums es r.sums)

-- `text` was read: whatever follows it, only that is still to come.
abbrev pub HasRead : List ℕ → ReportBuilder → Type 0
HasRead text r = (rest : List ℕ) → IsSummed (text ++ rest) rest r
