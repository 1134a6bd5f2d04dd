use Rattle.std.proofs.Common.{option_map}
use Rattle.nest_spec.specs.RunViews.{all_named}
use Rattle.nest_spec.specs.FateTexts.{fate_line}
use Rattle.nest_spec.specs.TableText.{run_entry}
use Rattle.nest_command.proofs.OutputLemmas.{run_stops, run_written}
use Rattle.nest_command.proofs.run_files.write_whole.Goals as goal

pub returns-clause-ok : goal.returns-clause-ok
returns-clause-ok g c =
    run_written run_entry fate_line c.write_packets.result c.args.run.now (all_named c.logs.result.now) c.fates.result.now
    (option_map (λ s. s.now) c.args.table) c.args.out.now c.args.rows.now
    _ _ _ c.logs.ensures c.fates.ensures c.in_ok-write_whole_logs.ensures.ok c.write_packets.ensures.ok

pub returns-clause-stopped : goal.returns-clause-stopped
returns-clause-stopped g c =
    run_stops run_entry fate_line c.write_packets.result c.args.run.now (all_named c.logs.result.now) c.fates.result.now
    (option_map (λ s. s.now) c.args.table) c.args.out.now c.args.rows.now
    _ _ _ c.logs.ensures c.fates.ensures c.in_ok-write_whole_logs.ensures.ok
    c.write_whole_logs.ensures.only_writes c.write_packets.ensures.stopped
