use Rattle.std.proofs.Common.{List, [], subst, sym, arith}
use Rattle.std.proofs.lemmas.List.{take_all}
use Rattle.std.proofs.lemmas.Result.{err_from_is_err_and}
use Rattle.mm_base.proofs.Then.{OnlyReads-then}
use Rattle.trace_reader.specs.Traces.{TraceView}
use Rattle.command_ends.specs.Causes.{Text}
use Rattle.command_ends.specs.Readings.{Done}
use Rattle.command_ends.proofs.CountLemmas.{reads_none}
use Rattle.command_ends.specs.Stops.{StopsReading, ReadingWants}
use Rattle.command_ends.specs.declared.cause.Cause.{Cause}
use Rattle.nest_command.specs.Inputs.{reading_traces}
use Rattle.nest_command.specs.Loaded.{HaveTraces, NoTraces}
use Rattle.nest_command.proofs.InputLemmas.{have_count, have_more, traces_stop}
use Rattle.nest_command.proofs.traces.load_traces.Goals as goal

pub loop-name-init : goal.loop-name-init
loop-name-init g c = record {
  so_far = (
    [],
    subst (λ (traces : List TraceView). HaveTraces (g.D.Disk.view c.args.disk.now).files [] [] traces)
        (sym c.new-traces.ensures.items) NoTraces,
  );
  only_reads = reads_none (g.D.Disk.view c.args.disk.now);
  before = tt;
  no_fault = tt;
}

pub returns-in_err-file-clause-stopped : goal.returns-in_err-file-clause-stopped
returns-in_err-file-clause-stopped g c =
    let p = err_from_is_err_and c.from_residual.result c.from_residual.ensures.1 in
    let old = g.D.Disk.view c.args.disk.now in
    let mid = g.D.Disk.view c.loop-name.disk in
    let new = g.D.Disk.view c.load_trace.new.disk in
    let have = c.loop-name.invariant.so_far in
    rw p.1 (subst (λ (k : Cause). StopsReading (reading_traces c.args.names.now Done) old new k) (sym p.2)
    (traces_stop c.args.names.now c.loop-name.name-index c.name-item.result old mid new have.0
    c.loop-name.traces.items _ c.loop-name-test.true c.name-item.is
    have.1 c.loop-name.invariant.only_reads c.in_err-file.ensures.stopped))

pub returns-in_err-push-clause-stopped : goal.returns-in_err-push-clause-stopped
returns-in_err-push-clause-stopped g c =
    let p = err_from_is_err_and c.from_residual-in_err-push.result c.from_residual-in_err-push.ensures.1 in
    rw p.1 (ReadingWants p.2)

pub loop-name-preserved : goal.loop-name-preserved
loop-name-preserved g c =
    let have = c.loop-name.invariant.so_far in record {
      so_far = have_more (g.D.Disk.view c.args.disk.now).files (g.D.Disk.view c.loop-name.disk).files c.args.names.now
          c.loop-name.name-index c.name-item.result have.0 c.loop-name.traces.items c.push.new.self.items
          c.in_ok-file.file.text c.in_ok-file.file.trace c.loop-name-test.true c.name-item.is have.1
          c.loop-name.invariant.only_reads.same_files c.in_ok-file.ensures.found
          (rw c.in_ok-copy.ensures at c.in_ok-push.ensures.items);
      only_reads = OnlyReads-then c.loop-name.invariant.only_reads c.load_trace.ensures.only_reads;
      before = c.in_ok-file.ensures.found.trace_is;
      no_fault = c.in_ok-file.ensures.no_fault;
    }

pub returns-clause-found : goal.returns-clause-found
returns-clause-found g c =
    let have = c.loop-name.invariant.so_far in
    let all = take_all c.loop-name.name-index c.args.names.now (omega arith) in (
      have.0,
      subst (λ (l : List Text). HaveTraces (g.D.Disk.view c.args.disk.now).files l have.0
          c.loop-name.traces.items) all have.1,
    )

pub returns-clause-count : goal.returns-clause-count
returns-clause-count g c =
    let have = c.loop-name.invariant.so_far in
    let all = take_all c.loop-name.name-index c.args.names.now (omega arith) in
    have_count (subst (λ (l : List Text). HaveTraces (g.D.Disk.view c.args.disk.now).files l have.0
    c.loop-name.traces.items) all have.1)
