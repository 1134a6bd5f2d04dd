use Rattle.std.proofs.Common.{subst, sym, ◌∙◌, ap}
use Rattle.std.proofs.lemmas.Result.{IfOk-weaker}
use Rattle.packet_record.specs.Printing.{schedule_text}
use Rattle.packet_record.specs.Schedules.{IsScheduleText}
use Rattle.packet_record.proofs.PrintingLemmas.{printed}
use Rattle.packet_record.proofs.printing.print_schedule.Goals as goal

pub returns-clause-read : goal.returns-clause-read
returns-clause-read c =
    IfOk-weaker c.print_lines.result _ _
    (λ text is. subst (λ t. IsScheduleText t c.args.schedule.now) (sym (is ∙ ap schedule_text c.rows.ensures.rows))
    (printed c.args.schedule.now c.rows.ensures.schedule))
    c.print_lines.ensures
