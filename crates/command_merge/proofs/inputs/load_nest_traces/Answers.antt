use Rattle.std.proofs.Common.{List, ◌≤◌, subst, sym}
use Rattle.std.proofs.lemmas.Result.{err_from_is_err_and}
use Rattle.trace_reader.specs.Traces.{TraceView}
use Rattle.nest_spec.specs.Nests.{opportunities_of}
use Rattle.command_ends.specs.Causes.{Text}
use Rattle.command_ends.specs.Readings.{Done}
use Rattle.command_ends.specs.Stops.{RefusesText, StopsReading}
use Rattle.command_ends.specs.declared.cause.Cause.{Cause}
use Rattle.nest_command.specs.Inputs.{reading_traces}
use Rattle.nest_command.specs.Loaded.{HaveTraces}
use Rattle.nest_command.specs.NestReading.{refused_count}
use Rattle.nest_command.proofs.InputLemmas.{traces_stop_before}
use Rattle.command_merge.specs.MergeReading.{merge_inputs}
use Rattle.command_merge.specs.inside.Values.{merge_values}
use Rattle.nest_command.proofs.NestRefusals.{count_stop}
use Rattle.command_merge.specs.MergeReading.{sender_inputs}
use Rattle.command_merge.proofs.MergeLemmas.{after_traces}
use Rattle.command_merge.proofs.inputs.load_nest_traces.Goals as goal

pub returns-in_err-traces-clause-stopped : goal.returns-in_err-traces-clause-stopped
returns-in_err-traces-clause-stopped g c =
    let p = err_from_is_err_and c.from_residual.result c.from_residual.ensures.1 in
    let job = merge_values c.args.job.now in
    let nest = c.args.nest.now in
    let old = g.D.Disk.view c.args.disk.now in
    let new = g.D.Disk.view c.load_traces.new.disk in
    rw p.1 (subst (λ (k : Cause). StopsReading (merge_inputs job nest) old new k) (sym p.2)
    (traces_stop_before nest.traces old new c.in_err-traces.field-0.0 (after_traces job nest)
    (subst (λ (names : List Text). StopsReading (reading_traces names Done) old new c.in_err-traces.field-0.0)
    c.traces.ensures.traces c.in_err-traces.ensures.stopped)))

pub returns-in_err-check_count-clause-stopped : goal.returns-in_err-check_count-clause-stopped
returns-in_err-check_count-clause-stopped g c =
    let p = err_from_is_err_and c.from_residual-in_err-check_count.result c.from_residual-in_err-check_count.ensures.1
    in
    let job = merge_values c.args.job.now in
    let nest = c.args.nest.now in
    let old = g.D.Disk.view c.args.disk.now in
    let new = g.D.Disk.view c.load_traces.new.disk in
    let found = c.in_ok-traces.ensures.found in
    let traces = c.in_ok-traces.traces.items in
    let have = subst (λ (names : List Text). HaveTraces old.files names found.0 traces) c.traces.ensures.traces
    found.1 in
    let refused = subst (λ (l : List TraceView). RefusesText (refused_count job.horizon nest.shells l)
    c.in_err-check_count.field-0.0) c.as_slice.ensures.value c.in_err-check_count.ensures.refused in
    rw p.1 (subst (λ (k : Cause). StopsReading (merge_inputs job nest) old new k) (sym p.2)
    (count_stop job.horizon nest (sender_inputs job nest) old new found.0 traces c.in_err-check_count.field-0.0 have
    refused))

pub returns-clause-found : goal.returns-clause-found
returns-clause-found g c =
    let job = merge_values c.args.job.now in
    let nest = c.args.nest.now in
    let found = c.in_ok-traces.ensures.found in
    let traces = c.in_ok-traces.traces.items in record {
      texts = found.0;
      have = subst (λ (names : List Text). HaveTraces (g.D.Disk.view c.args.disk.now).files names found.0 traces)
          c.traces.ensures.traces found.1;
      few = subst (λ (l : List TraceView). opportunities_of job.horizon nest.shells l ≤ 16000000)
          c.as_slice.ensures.value
          c.in_ok-check_count.ensures.few;
    }
