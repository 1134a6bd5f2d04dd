use Rattle.std.proofs.Common.{◌∷◌, ◌++◌, [], ap, subst, sym, ◌∙◌}
use Rattle.std.proofs.lemmas.List.{append_assoc}
use Rattle.std.proofs.lemmas.Result.{err_from_is_err_and}
use Rattle.mm_base.proofs.Then.{OnlyWrites-then}
use Rattle.nest_plain.specs.Unwritten.{unwritten_log}
use Rattle.command_ends.specs.Stops.{StopsWriting}
use Rattle.command_ends.specs.declared.cause.Cause.{Cause}
use Rattle.nest_command.proofs.OutputLemmas.{files_by, log_written, stops_at_log}
use Rattle.nest_command.proofs.run_files.write_logs.Goals as goal

pub loop-log-preserved : goal.loop-log-preserved
loop-log-preserved g c = record {
  all = c.loop-log.invariant.all ∙ ap (λ l. c.loop-log.yielded ++ l) c.in-Some.ensures.steps.0
      ∙ sym (append_assoc c.loop-log.yielded (c.in-Some.log ∷ []) c.next.new.self.rest.items);
  whole = log_written unwritten_log c.loop-log.yielded c.in-Some.log _ _ _ c.loop-log.invariant.whole
      c.in_ok-write_log.ensures.ok;
  only_writes = OnlyWrites-then c.loop-log.invariant.only_writes c.write_log.ensures.only_writes;
}

pub returns-in_err-write_log-clause-stopped : goal.returns-in_err-write_log-clause-stopped
returns-in_err-write_log-clause-stopped g c =
    let p = err_from_is_err_and c.from_residual.result c.from_residual.ensures.1 in
    let old = g.D.Disk.view c.args.disk.now in
    let mid = g.D.Disk.view c.loop-log.disk in
    let new = g.D.Disk.view c.write_log.new.disk in
    let all = c.loop-log.invariant.all ∙ ap (λ l. c.loop-log.yielded ++ l) c.in-Some.ensures.steps.0 in
    rw p.1 (subst (λ (k : Cause). StopsWriting (files_by unwritten_log c.args.logs.items) old new k) (sym p.2)
    (stops_at_log unwritten_log c.args.logs.items c.loop-log.yielded c.next.new.self.rest.items c.in-Some.log old mid
    new _ all
    c.loop-log.invariant.whole
    c.in_err-write_log.ensures.partly c.loop-log.invariant.only_writes c.in_err-write_log.ensures.stopped))
