use Rattle.std.proofs.Common.{subst, sym}
use Rattle.nest_runner.specs.Streaming.{HasStreamCause}
use Rattle.command_ends.specs.Readings.{Done}
use Rattle.command_ends.specs.Stops.{StopsReading}
use Rattle.command_ends.specs.declared.cause.Cause.{Cause}
use Rattle.nest_command.specs.Inputs.{reading_schedule}
use Rattle.command_run.proofs.StreamLemmas.{absent_stop, failed_stop, long_stop, text_stop, wants_stop}
use Rattle.command_run.proofs.passing.stream_cause.Goals as goal

pub returns-in-Absent : goal.returns-in-Absent
returns-in-Absent c = λ old new h.
    absent_stop c.args.name old new (subst (HasStreamCause old new c.args.name) c.in-Absent.is h)

pub returns-in-Failed : goal.returns-in-Failed
returns-in-Failed c = λ old new h.
    failed_stop c.args.name old new (subst (HasStreamCause old new c.args.name) c.in-Failed.is h)

pub returns-in-OutOfMemory : goal.returns-in-OutOfMemory
returns-in-OutOfMemory c = λ old new h. wants_stop c.args.name old new

pub returns-in-TooLong : goal.returns-in-TooLong
returns-in-TooLong c = λ old new h.
    let name = c.args.name in
    subst (λ (k : Cause). StopsReading (reading_schedule name Done) old new k) (sym c.limit.ensures)
    (long_stop name old new _ (subst (HasStreamCause old new name) c.in-TooLong.is h))

pub returns-in-Schedule : goal.returns-in-Schedule
returns-in-Schedule c = λ old new h.
    text_stop c.args.name old new c.in-Schedule.error c.schedule_cause.result
    (subst (HasStreamCause old new c.args.name) c.in-Schedule.is h) c.schedule_cause.ensures
