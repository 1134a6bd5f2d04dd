use Rattle.std.proofs.Common.{[], ◌∷◌, option_map}
use Rattle.std.specs.List.{flat_map}
use Rattle.command_ends.specs.Outputs.{named_text}
use Rattle.nest_spec.specs.TableText.{table_by}
use Rattle.nest_command.specs.RunFiles.{file_if}
use Rattle.nest_command.proofs.OutputLemmas.{file_stops, file_written, rest_stops, rest_written}
use Rattle.nest_command.proofs.packet_files.write_packets.Goals as goal

pub returns-clause-ok : goal.returns-clause-ok
returns-clause-ok g c =
    let name = option_map (λ s. s.now) c.args.table in
    let text = table_by g.P.TableRow.row_of g.F.TableFate.entry_of c.args.rows.now c.args.fates.now in
    let last = named_text c.args.out.now (flat_map g.F.PrintLine.line c.args.fates.now) in
    rest_written c.write_fates.result (file_if name text) (last ∷ []) _ _ _ c.in_ok-write_table.ensures.ok
    (file_written c.write_fates.result last _ _ c.write_fates.ensures.ok)

pub returns-clause-stopped : goal.returns-clause-stopped
returns-clause-stopped g c =
    let name = option_map (λ s. s.now) c.args.table in
    let text = table_by g.P.TableRow.row_of g.F.TableFate.entry_of c.args.rows.now c.args.fates.now in
    let last = named_text c.args.out.now (flat_map g.F.PrintLine.line c.args.fates.now) in
    rest_stops c.write_fates.result (file_if name text) (last ∷ []) _ _ _ c.in_ok-write_table.ensures.ok
    c.write_table.ensures.only_writes
    (file_stops c.write_fates.result last _ _ c.write_fates.ensures.partly c.write_fates.ensures.stopped)
