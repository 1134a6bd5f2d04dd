use Rattle.std.proofs.Common.{Some, ap, sym, ◌∙◌}
use Rattle.packet_record.specs.declared.reading.ScheduleError.{ScheduleError}
use Rattle.nest_command.specs.Inputs.{schedule_refused}
use Rattle.nest_command.proofs.InputLemmas.{schedule_bad, schedule_said}
use Rattle.nest_command.proofs.schedules.schedule_cause.Goals as goal

pub returns-in-TooMany : goal.returns-in-TooMany
returns-in-TooMany c = λ text h.
    schedule_said c.args.name text c.args.error _ _ (h (λ e. let no = sym c.in-TooMany.is ∙ e in cc no))
    (ap (λ (e : ScheduleError). schedule_refused c.args.name (Some e)) c.in-TooMany.is) c.limit.ensures

pub returns-in_default : goal.returns-in_default
returns-in_default c = λ text h.
    schedule_said c.args.name text c.args.error _ _ (h c.in_default.not-OutOfMemory)
    (schedule_bad c.args.name c.args.error c.in_default.not-TooMany c.in_default.not-OutOfMemory)
    (cc (c.number.ensures, c.line.ensures))
