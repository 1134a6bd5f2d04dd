use Rattle.std.proofs.Common.{subst, sym}
use Rattle.std.proofs.lemmas.Result.{err_from_is_err_and}
use Rattle.command_ends.specs.Readings.{Done, unless}
use Rattle.command_ends.specs.Stops.{StopsReading}
use Rattle.command_ends.specs.declared.cause.Cause.{Cause}
use Rattle.command_ends.proofs.ReadingLemmas.{stops_at, text_stopped}
use Rattle.nest_command.specs.Inputs.{reading_schedule, schedule_refusal}
use Rattle.nest_command.proofs.InputLemmas.{schedule_found, schedule_text}
use Rattle.nest_command.proofs.schedules.load_packed.Goals as goal

pub returns-in_err-text-clause-stopped : goal.returns-in_err-text-clause-stopped
returns-in_err-text-clause-stopped g c =
    let p = err_from_is_err_and c.from_residual.result c.from_residual.ensures.1 in
    let name = c.args.name.now in
    let old = g.D.Disk.view c.args.disk.now in
    let new = g.D.Disk.view c.read_schedule_file.new.disk in
    rw p.1 (subst (λ (k : Cause). StopsReading (reading_schedule name Done) old new k) (sym p.2)
    (stops_at name (λ text. unless (schedule_refusal name text) (Done text)) old new _ c.in_err-text.ensures.stopped))

pub returns-clause-found : goal.returns-clause-found
returns-clause-found g c =
    let read = c.in_ok-text.ensures.read in
    schedule_found (g.D.Disk.view c.args.disk.now).files c.args.name.now read.0 c.schedule_of.result read.1
    (c.schedule_of.ensures.rows read.0 read.2) (c.schedule_of.ensures.refused read.0 read.2)

pub returns-clause-stopped : goal.returns-clause-stopped
returns-clause-stopped g c =
    let name = c.args.name.now in
    let old = g.D.Disk.view c.args.disk.now in
    let new = g.D.Disk.view c.read_schedule_file.new.disk in
    let read = c.in_ok-text.ensures.read in
    text_stopped old new (schedule_refusal name) name read.0 c.schedule_of.result read.1
    (λ refusal e. (schedule_text name read.0 refusal e).not_absent)
    (c.schedule_of.ensures.refused read.0 read.2)
