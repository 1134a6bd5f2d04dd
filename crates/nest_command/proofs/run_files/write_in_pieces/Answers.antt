use Rattle.std.proofs.Common.{◌∙◌, option_map}
use Rattle.nest_plain.specs.Unwritten.{unwritten}
use Rattle.nest_spec.specs.FateTexts.{fate_line}
use Rattle.nest_spec.specs.TableText.{run_entry}
use Rattle.nest_command.proofs.OutputLemmas.{run_stops, run_written}
use Rattle.nest_command.proofs.run_files.write_in_pieces.Goals as goal

pub returns-clause-ok : goal.returns-clause-ok
returns-clause-ok g c =
    let parts = c.into_parts-fates in
    let fates = c.as_slice.ensures.value ∙ parts.ensures.fates in
    run_written run_entry fate_line c.write_packets.result c.args.run (unwritten parts.result.1.items) c.as_slice.result.now
    (option_map (λ s. s.now) c.args.table) c.args.out.now c.args.rows.now _ _ _
    parts.ensures.logs fates c.in_ok-write_logs.ensures.ok c.write_packets.ensures.ok

pub returns-clause-stopped : goal.returns-clause-stopped
returns-clause-stopped g c =
    let parts = c.into_parts-fates in
    let fates = c.as_slice.ensures.value ∙ parts.ensures.fates in
    run_stops run_entry fate_line c.write_packets.result c.args.run (unwritten parts.result.1.items) c.as_slice.result.now
    (option_map (λ s. s.now) c.args.table) c.args.out.now c.args.rows.now _ _ _
    parts.ensures.logs fates c.in_ok-write_logs.ensures.ok
    c.write_logs.ensures.only_writes c.write_packets.ensures.stopped
