-- What the two first clauses of reading a schedule say beside: no text that is refused is that of a schedule, and a
-- text has one list of rows.
use Rattle.std.proofs.Common.{◌≡◌, ◌≢◌, ℕ, List, Result, Ok, Err, Some, None, IfOk, IfErr, MatchResult}
use Rattle.text_base.specs.Lines.{lines_of}
use Rattle.packet_record.specs.Schedules.{IsScheduleText, first_fault}
use Rattle.packet_record.specs.declared.packet.Row.{Row}
use Rattle.packet_record.specs.declared.reading.ScheduleError.{ScheduleError}
use Rattle.packet_record.specs.declared.reading.ScheduleError.TheVariants.{OutOfMemory}
use Rattle.packet_record.proofs.Faults.{refused}
use Rattle.packet_record.proofs.OneList.{one_list}

pub only_then : (text : List ℕ) (result : Result (List Row) ScheduleError)
    → MatchResult result (λ _. first_fault 1 0 (lines_of text) ≡ None) (λ e. (e ≢ OutOfMemory)
    → first_fault 1 0 (lines_of text) ≡ Some e)
    → IfErr result (λ e. e ≢ OutOfMemory → (rows : List Row) → IsScheduleText text rows → ⊥)
only_then text (Ok rows) exact = tt
only_then text (Err e) exact = λ ne rows is. refused text e rows (exact ne) is

pub one_then : (text : List ℕ) (result : Result (List Row) ScheduleError)
    → IfOk result (λ rows. IsScheduleText text rows)
    → IfOk result (λ rows. (others : List Row) → IsScheduleText text others → others ≡ rows)
one_then text (Ok rows) found = λ others is. one_list text others rows is found
one_then text (Err e) found = tt
