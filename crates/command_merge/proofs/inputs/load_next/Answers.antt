use Rattle.std.proofs.Common.{◌+◌, length, ap, subst, sym}
use Rattle.std.proofs.lemmas.Result.{err_from_is_err_and}
use Rattle.command_ends.specs.Readings.{Done}
use Rattle.command_ends.specs.Stops.{StopsReading}
use Rattle.command_ends.specs.declared.cause.Cause.{Cause}
use Rattle.command_merge.specs.MergeReading.{reading_next}
use Rattle.command_merge.proofs.ScheduleLemmas.{next_found, schedule_stop, total_stop}
use Rattle.command_merge.proofs.inputs.load_next.Goals as goal

pub returns-in_err-schedule-clause-stopped : goal.returns-in_err-schedule-clause-stopped
returns-in_err-schedule-clause-stopped g c =
    let p = err_from_is_err_and c.from_residual.result c.from_residual.ensures.1 in
    let name = c.args.name.now in
    let old = g.D.Disk.view c.args.disk.now in
    let new = g.D.Disk.view c.load_packed.new.disk in
    rw p.1 (subst (λ (k : Cause). StopsReading (reading_next c.args.before name Done) old new k) (sym p.2)
    (schedule_stop c.args.before name old new _ c.in_err-schedule.ensures.stopped))

pub returns-in_err-check_total-clause-stopped : goal.returns-in_err-check_total-clause-stopped
returns-in_err-check_total-clause-stopped g c =
    let p = err_from_is_err_and c.from_residual-in_err-check_total.result c.from_residual-in_err-check_total.ensures.1
    in
    let name = c.args.name.now in
    let old = g.D.Disk.view c.args.disk.now in
    let new = g.D.Disk.view c.load_packed.new.disk in
    let found = c.in_ok-schedule.ensures.found in
    rw p.1 (subst (λ (k : Cause). StopsReading (reading_next c.args.before name Done) old new k) (sym p.2)
    (total_stop c.args.before _ name found.0 c.in_ok-schedule.schedule old new _ found.1
    (ap (λ n. c.args.before + n) (ap length c.rows.ensures.rows))
    c.load_packed.ensures.only_reads c.in_err-check_total.ensures.refused))

pub returns-clause-found : goal.returns-clause-found
returns-clause-found g c =
    next_found (g.D.Disk.view c.args.disk.now).files c.args.before _ c.args.name.now c.in_ok-schedule.schedule
    c.in_ok-schedule.ensures.found (ap (λ n. c.args.before + n) (ap length c.rows.ensures.rows))
    c.in_ok-check_total.ensures.refused
