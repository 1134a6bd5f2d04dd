use Rattle.std.proofs.Common.{◌≡◌, None, subst, sym}
use Rattle.std.proofs.lemmas.Result.{err_from_is_err_and}
use Rattle.shell_workers.specs.declared.ends.WorkEnd.{WorkEnd}
use Rattle.nest_runner.specs.declared.stream_error.StreamError.{StreamError}
use Rattle.shell_workers.specs.Ends.{IfEnded}
use Rattle.mark_channel.specs.Boths.{ByDirection, OfBoth}
use Rattle.nest_runner.specs.Lanes.{HasRun, IsDonePath}
use Rattle.nest_runner.specs.inside.Lanes.{HasEnded}
use Rattle.nest_runner.specs.Streaming.{HasStreamCause}
use Rattle.shell_workers.specs.StreamParts.{AllSent, IsStreamed}
use Rattle.nest_runner.proofs.BothLanes.{both_ended, both_ran}
use Rattle.nest_runner.proofs.Streamed.{disk_cause, ok_has, streamed_lanes, text_cause}
use Rattle.nest_runner.proofs.stream.run_file.Goals as goal

pub returns-in_err-read-clause-stopped : goal.returns-in_err-read-clause-stopped
returns-in_err-read-clause-stopped g c =
    let p = err_from_is_err_and c.from_residual-in_err-read.result c.from_residual-in_err-read.ensures.1 in
    let ran = c.stream_lanes-end in
    let name = c.args.place.now.name.now in
    let old = g.D.Disk.view c.args.disk.now in
    let new = g.D.Disk.view ran.new.disk in
    rw p.1 (subst (λ (e : StreamError). HasStreamCause old new name e) (sym p.2)
    (disk_cause old new name ran.result.1 _ c.in_err-read.was ran.ensures.reads.absent ran.ensures.reads.cause))

pub returns-in_err-schedule-clause-stopped : goal.returns-in_err-schedule-clause-stopped
returns-in_err-schedule-clause-stopped g c =
    let p = err_from_is_err_and c.from_residual-in_err-schedule.result c.from_residual-in_err-schedule.ensures.1 in
    let ran = c.stream_lanes-end in
    let name = c.args.place.now.name.now in
    let old = g.D.Disk.view c.args.disk.now in
    let new = g.D.Disk.view ran.new.disk in
    let read = ran.new.file.text in
    let streamed = ok_has ran.result.1 _ (IsStreamed old.files name read) c.in_ok-read.was ran.ensures.text in
    rw p.1 (subst (λ (e : StreamError). HasStreamCause old new name e) (sym p.2)
    (text_cause old new name read _ streamed (c.in_err-schedule.ensures.exact streamed.bytes streamed.all)))

pub returns-clause-ended : goal.returns-clause-ended
returns-clause-ended g c =
    let ran = c.stream_lanes-end in
    let h = c.horizon.result in
    let rows = ran.new.file.text.gathered.rows in
    let sent = ok_has ran.result.1 _ (ran.new.file.text.gathered.refused ≡ None
    → ByDirection (λ d head. AllSent d h rows head) ran.new.lanes.heads) c.in_ok-read.was ran.ensures.sent
    c.in_ok-schedule.ensures.rows.1 in
    let done = subst (λ (e : WorkEnd). IfEnded e (OfBoth IsDonePath ran.new.lanes.paths)) c.in-Ended.is
    ran.ensures.done in
    subst (λ lanes. OfBoth HasEnded lanes) (sym c.into_both.ensures)
    (both_ended h c.in_ok-schedule.schedule _
    (streamed_lanes h rows c.in_ok-schedule.schedule ran.new.lanes c.in_ok-schedule.ensures.rows.0 sent done))

pub returns-clause-ran : goal.returns-clause-ran
returns-clause-ran g c =
    let ran = c.stream_lanes-end in
    let h = c.horizon.result in
    let rows = ran.new.file.text.gathered.rows in
    let sent = ok_has ran.result.1 _ (ran.new.file.text.gathered.refused ≡ None
    → ByDirection (λ d head. AllSent d h rows head) ran.new.lanes.heads) c.in_ok-read.was ran.ensures.sent
    c.in_ok-schedule.ensures.rows.1 in
    let done = subst (λ (e : WorkEnd). IfEnded e (OfBoth IsDonePath ran.new.lanes.paths)) c.in-Ended.is
    ran.ensures.done in
    subst (λ lanes. ByDirection (λ d lane. HasRun d c.args.nest.now c.in_ok-schedule.schedule lane) lanes)
    (sym c.into_both.ensures)
    (both_ran c.args.nest.now h c.in_ok-schedule.schedule _ _ c.horizon.ensures.value c.in_ok-lanes.ensures.wired
    ran.ensures.same
    (streamed_lanes h rows c.in_ok-schedule.schedule ran.new.lanes c.in_ok-schedule.ensures.rows.0 sent done))
