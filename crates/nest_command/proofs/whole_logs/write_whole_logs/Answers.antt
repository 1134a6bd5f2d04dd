use Rattle.std.proofs.Common.{ap, subst, sym, ◌∙◌, arith}
use Rattle.std.proofs.lemmas.List.{take_all}
use Rattle.std.proofs.lemmas.Result.{err_from_is_err_and}
use Rattle.mm_base.proofs.Then.{OnlyWrites-then}
use Rattle.nest_spec.specs.RunViews.{entries_in, named_by}
use Rattle.command_ends.specs.Outputs.{holding_all}
use Rattle.command_ends.specs.Stops.{StopsWriting}
use Rattle.command_ends.specs.declared.cause.Cause.{Cause}
use Rattle.nest_command.proofs.OutputLemmas.{files_by, next_written, stops_at_next}
use Rattle.nest_command.proofs.whole_logs.write_whole_logs.Goals as goal

pub loop-log-preserved : goal.loop-log-preserved
loop-log-preserved g c = record {
  whole = next_written (named_by entries_in) c.args.logs.now c.loop-log.log-index c.log-item.result _ _ _
      c.loop-log-test.true c.log-item.is c.loop-log.invariant.whole c.in_ok-write_whole_log.ensures.ok;
  only_writes = OnlyWrites-then c.loop-log.invariant.only_writes c.write_whole_log.ensures.only_writes;
}

pub returns-in_err-write_whole_log-clause-stopped : goal.returns-in_err-write_whole_log-clause-stopped
returns-in_err-write_whole_log-clause-stopped g c =
    let p = err_from_is_err_and c.from_residual.result c.from_residual.ensures.1 in
    let old = g.D.Disk.view c.args.disk.now in
    let mid = g.D.Disk.view c.loop-log.disk in
    let new = g.D.Disk.view c.write_whole_log.new.disk in
    rw p.1 (subst (λ (k : Cause). StopsWriting (files_by (named_by entries_in) c.args.logs.now) old new k) (sym p.2)
    (stops_at_next (named_by entries_in) c.args.logs.now c.loop-log.log-index c.log-item.result old mid new _
    c.loop-log-test.true c.log-item.is c.loop-log.invariant.whole c.in_err-write_whole_log.ensures.partly
    c.loop-log.invariant.only_writes c.in_err-write_whole_log.ensures.stopped))

pub returns-clause-ok : goal.returns-clause-ok
returns-clause-ok g c =
    c.loop-log.invariant.whole
    ∙ ap (λ logs. holding_all (files_by (named_by entries_in) logs) (g.D.Disk.view c.args.disk.now).files)
    (take_all c.loop-log.log-index c.args.logs.now (omega arith))
