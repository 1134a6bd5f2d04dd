use Rattle.std.proofs.Common.{◌∙◌, subst, sym}
use Rattle.std.proofs.lemmas.Result.{err_from_is_err_and}
use Rattle.command_ends.specs.Stops.{StopsReading}
use Rattle.command_ends.specs.declared.cause.Cause.{Cause}
use Rattle.command_run.specs.RunReading.{run_inputs}
use Rattle.command_run.specs.inside.Values.{run_values}
use Rattle.command_run.proofs.RunLemmas.{HasInputs, order_stop, passed_finishes, passed_stops, some_as}
use Rattle.command_run.proofs.run.run_packets.Goals as goal

pub returns-in_err-order-clause-stopped : goal.returns-in_err-order-clause-stopped
returns-in_err-order-clause-stopped g c =
    let p = err_from_is_err_and c.from_residual-in_err-order.result c.from_residual-in_err-order.ensures.1 in
    let job = run_values c.args.job.now in
    let old = g.D.Disk.view c.args.disk.now in
    let mid = g.D.Disk.view c.load_nest.new.disk in
    let new = g.D.Disk.view c.load_order.new.disk in
    rw p.1 (subst (λ (k : Cause). StopsReading (run_inputs job c.args.words) old new k) (sym p.2)
    (order_stop job c.args.words c.in_ok-nest.nest old mid new _ c.in_ok-nest.ensures.found
    c.load_nest.ensures.only_reads c.in_err-order.ensures.stopped))

pub returns-clause-stopped : goal.returns-clause-stopped
returns-clause-stopped g c =
    let job = run_values c.args.job.now in
    let old = g.D.Disk.view c.args.disk.now in
    let mid = g.D.Disk.view c.load_nest.new.disk in
    let late = g.D.Disk.view c.load_order.new.disk in
    let new = g.D.Disk.view c.pass_packets.new.disk in
    let read : HasInputs old mid late job c.args.words c.in_ok-nest.nest = record {
      has = c.in_ok-nest.ensures.found;
      first = c.load_nest.ensures.only_reads;
      order = c.in_ok-order.ensures.found;
      second = c.load_order.ensures.only_reads;
    } in
    passed_stops job c.args.words c.in_ok-nest.nest old mid late new c.pass_packets.result read
    c.pass_packets.ensures.stopped

pub returns-clause-found : goal.returns-clause-found
returns-clause-found g c =
    let job = run_values c.args.job.now in
    let old = g.D.Disk.view c.args.disk.now in
    let mid = g.D.Disk.view c.load_nest.new.disk in
    let late = g.D.Disk.view c.load_order.new.disk in
    let read : HasInputs old mid late job c.args.words c.in_ok-nest.nest = record {
      has = c.in_ok-nest.ensures.found;
      first = c.load_nest.ensures.only_reads;
      order = c.in_ok-order.ensures.found;
      second = c.load_order.ensures.only_reads;
    } in
    passed_finishes job c.args.words c.in_ok-nest.nest old mid late c.is_some-keeps.result c.pass_packets.result read
    (some_as (λ s. s.now) c.args.job.now.table ∙ sym c.is_some-keeps.ensures) c.pass_packets.ensures.found
