use Rattle.std.proofs.Common.{◌≡◌, ◌+◌, ◌∷◌, length, map, ap, rules, subst, sym}
use Rattle.std.proofs.lemmas.List.{nil_from_length}
use Rattle.std.proofs.lemmas.Result.{err_from_is_err_and, on_ok_weaker}
use Rattle.command_ends.specs.Readings.{Done}
use Rattle.command_ends.specs.Stops.{StopsReading}
use Rattle.command_ends.specs.declared.cause.Cause.{Cause}
use Rattle.command_merge.specs.MergeReading.{reading_schedules}
use Rattle.command_merge.proofs.ScheduleLemmas.{adds_more, adds_none, first_stop, if_err_weaker, later_stop}
use Rattle.command_merge.proofs.inputs.+load_schedules.Goals as goal

pub returns-in_default-clause-found : goal.returns-in_default-clause-found
returns-in_default-clause-found g t c =
    let none = nil_from_length c.args.names.now c.in_default.ensures.cases in
    adds_none (g.D.Disk.view c.args.disk.now).files c.args.before _ c.args.schedules.now.items
    (ap (map (λ name. name.now)) none)

pub returns-in_err-schedule-clause-stopped : goal.returns-in_err-schedule-clause-stopped
returns-in_err-schedule-clause-stopped g t c =
    let p = err_from_is_err_and c.from_residual.result c.from_residual.ensures.1 in
    let names = map (λ name. name.now) c.args.names.now in
    let old = g.D.Disk.view c.args.disk.now in
    let new = g.D.Disk.view c.load_next.new.disk in
    let split : c.args.names.now ≡ c.in-Some.name.now ∷ c.in-Some.names.now = search rules in
    rw p.1 (subst (λ (k : Cause). StopsReading (reading_schedules c.args.before names Done) old new k) (sym p.2)
    (first_stop c.args.before c.in-Some.name.now.now names (map (λ name. name.now) c.in-Some.names.now) old new _
    (ap (map (λ name. name.now)) split) c.in_err-schedule.ensures.stopped))

pub returns-clause-found : goal.returns-clause-found
returns-clause-found g t c =
    let names = map (λ name. name.now) c.args.names.now in
    let old = g.D.Disk.view c.args.disk.now in
    let mid = g.D.Disk.view c.load_next.new.disk in
    let split : c.args.names.now ≡ c.in-Some.name.now ∷ c.in-Some.names.now = search rules in
    on_ok_weaker c.load_schedules.result
    (λ adds. adds_more old.files mid.files c.args.before _ c.in-Some.name.now.now names
    (map (λ name. name.now) c.in-Some.names.now) c.args.schedules.now.items c.push.new.self.items
    c.load_schedules.new.schedules.items c.in_ok-schedule.schedule (ap (map (λ name. name.now)) split)
    c.in_ok-schedule.ensures.found (ap (λ n. c.args.before + n) (ap length c.rows.ensures.rows))
    c.in_ok-push.ensures.items c.load_next.ensures.only_reads.same_files adds)
    c.load_schedules.ensures.found

pub returns-clause-stopped : goal.returns-clause-stopped
returns-clause-stopped g t c =
    let names = map (λ name. name.now) c.args.names.now in
    let old = g.D.Disk.view c.args.disk.now in
    let mid = g.D.Disk.view c.load_next.new.disk in
    let new = g.D.Disk.view c.load_schedules.new.disk in
    let split : c.args.names.now ≡ c.in-Some.name.now ∷ c.in-Some.names.now = search rules in
    if_err_weaker c.load_schedules.result
    (λ cause stopped. later_stop c.args.before _ c.in-Some.name.now.now names
    (map (λ name. name.now) c.in-Some.names.now) c.in_ok-schedule.schedule old mid new cause
    (ap (map (λ name. name.now)) split) c.in_ok-schedule.ensures.found
    (ap (λ n. c.args.before + n) (ap length c.rows.ensures.rows))
    c.load_next.ensures.only_reads stopped) c.load_schedules.ensures.stopped
