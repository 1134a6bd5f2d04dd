use Rattle.std.proofs.Common.{◌≡◌, ◌∙◌, IfErr, List, OnOk, ap, option_map, subst}
use Rattle.std.proofs.lemmas.Result.{err_from_is_err_and}
use Rattle.nest_plain.specs.Unwritten.{unwritten}
use Rattle.packet_record.specs.declared.packet.Row.{Row}
use Rattle.command_ends.specs.Outputs.{holding_all}
use Rattle.command_ends.specs.Stops.{StopsWriting}
use Rattle.command_merge.specs.Merge.{merge_files}
use Rattle.command_merge.specs.inside.Merged.{merged_in}
use Rattle.command_merge.proofs.FileLemmas.{merge_stops, merge_written, rows_of, unwritten_stop}
use Rattle.command_merge.proofs.files.write_files.Goals as goal

pub returns-clause-ok : goal.returns-clause-ok
returns-clause-ok g c =
    let parts = c.into_parts-fates in
    let fates = ap rows_of c.as_slice-2.ensures.value ∙ c.in_ok-fates.ensures ∙ c.as_slice.ensures.value
    ∙ parts.ensures.fates in
    let name = option_map (λ s. s.now) c.args.table in
    let run = c.args.merged.run in
    subst (λ (rows : List Row). OnOk c.write_packets.result ((g.D.Disk.view c.write_packets.new.disk).files
    ≡ holding_all (merge_files name c.args.out.now rows run) (g.D.Disk.view c.args.disk.now).files))
    c.merged_rows-rows.ensures
    (merge_written c.write_packets.result run (unwritten parts.result.1.items) c.as_slice-2.result.now name
    c.args.out.now c.merged_rows-rows.result.now _ _ _
    parts.ensures.logs fates c.in_ok-write_logs.ensures.ok c.write_packets.ensures.ok)

pub returns-clause-stopped : goal.returns-clause-stopped
returns-clause-stopped g c =
    let parts = c.into_parts-fates in
    let fates = ap rows_of c.as_slice-2.ensures.value ∙ c.in_ok-fates.ensures ∙ c.as_slice.ensures.value
    ∙ parts.ensures.fates in
    let name = option_map (λ s. s.now) c.args.table in
    let run = c.args.merged.run in
    let old = g.D.Disk.view c.args.disk.now in
    let new = g.D.Disk.view c.write_packets.new.disk in
    subst (λ (rows : List Row). IfErr c.write_packets.result (λ cause. StopsWriting
    (merge_files name c.args.out.now rows run) old new cause)) c.merged_rows-rows.ensures
    (merge_stops c.write_packets.result run (unwritten parts.result.1.items) c.as_slice-2.result.now name
    c.args.out.now c.merged_rows-rows.result.now _ _ _
    parts.ensures.logs fates c.in_ok-write_logs.ensures.ok
    c.write_logs.ensures.only_writes c.write_packets.ensures.stopped)

pub returns-in_err-fates-clause-stopped : goal.returns-in_err-fates-clause-stopped
returns-in_err-fates-clause-stopped g c =
    let p = err_from_is_err_and c.from_residual-in_err-fates.result c.from_residual-in_err-fates.ensures.1 in
    let parts = c.into_parts-fates in
    rw p.1 (unwritten_stop c.args.merged.run (unwritten parts.result.1.items) c.as_slice.result.now
    (option_map (λ s. s.now) c.args.table) c.args.out.now (merged_in c.args.merged.senders) _ _ _
    parts.ensures.logs (c.as_slice.ensures.value ∙ parts.ensures.fates) c.in_ok-write_logs.ensures.ok
    c.write_logs.ensures.only_writes p.2)
