use Rattle.std.proofs.Common.{◌∙◌, List, ap, subst, sym}
use Rattle.std.proofs.lemmas.Result.{err_from_is_err_and}
use Rattle.packet_record.specs.declared.packet.Row.{Row}
use Rattle.nest_spec.specs.Nests.{result_of}
use Rattle.nest_spec.specs.Once.{HaveOneFate}
use Rattle.sender_merge.specs.Merges.{merge_rows}
use Rattle.command_ends.specs.Stops.{StopsReading}
use Rattle.command_ends.specs.declared.cause.Cause.{Cause}
use Rattle.command_merge.specs.MergeReading.{merge_inputs}
use Rattle.command_merge.specs.inside.Values.{merge_values}
use Rattle.command_merge.proofs.MergeLemmas.{kept_rows, merge_finishes, senders_stop}
use Rattle.command_merge.proofs.merge.merge_packets.Goals as goal

pub returns-in_err-schedules-clause-stopped : goal.returns-in_err-schedules-clause-stopped
returns-in_err-schedules-clause-stopped g c =
    let p = err_from_is_err_and c.from_residual-in_err-schedules.result c.from_residual-in_err-schedules.ensures.1 in
    let job = merge_values c.args.job.now in
    let old = g.D.Disk.view c.args.disk.now in
    let mid = g.D.Disk.view c.load_nest_traces.new.disk in
    let new = g.D.Disk.view c.load_senders.new.disk in
    rw p.1 (subst (λ (k : Cause). StopsReading (merge_inputs job c.args.words) old new k) (sym p.2)
    (senders_stop job c.args.words c.in_ok-traces.traces.items old mid new _ c.in_ok-traces.ensures.found
    c.load_nest_traces.ensures.only_reads c.in_err-schedules.ensures.stopped))

pub returns-clause-found : goal.returns-clause-found
returns-clause-found g c =
    let job = merge_values c.args.job.now in
    let old = g.D.Disk.view c.args.disk.now in
    let mid = g.D.Disk.view c.load_nest_traces.new.disk in
    let nest = c.in_ok-nest.nest in
    merge_finishes job c.args.words nest c.in_ok-traces.traces.items c.in_ok-schedules.schedules.items _ old mid _
    c.in_ok-traces.ensures.found c.load_nest_traces.ensures.only_reads c.in_ok-schedules.ensures.found
    c.in_ok-nest.ensures
    (c.in_ok-run.ensures.value
    ∙ ap (λ (s : List (List Row)). result_of nest (merge_rows s)) c.in_ok-senders.ensures)
    (subst (λ (s : List (List Row)). HaveOneFate nest (merge_rows s)) c.in_ok-senders.ensures
    c.in_ok-run.ensures.once)
    (kept_rows (λ s. s.now) c.args.job.now.table c.is_some-keeps.result c.keep_if.result _
    c.in_ok-schedules.schedules.items c.is_some-keeps.ensures c.keep_if.ensures
    (c.run_nest_feeds.ensures.rows ∙ ap merge_rows c.in_ok-senders.ensures))
