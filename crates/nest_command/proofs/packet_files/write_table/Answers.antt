use Rattle.command_ends.specs.Outputs.{named_text}
use Rattle.nest_spec.specs.TableText.{table_by}
use Rattle.nest_command.proofs.OutputLemmas.{file_stops, file_written}
use Rattle.nest_command.proofs.packet_files.write_table.Goals as goal

pub returns-in-Some-clause-ok : goal.returns-in-Some-clause-ok
returns-in-Some-clause-ok g c =
    let text = table_by g.P.TableRow.row_of g.F.TableFate.entry_of c.args.rows.now c.args.fates.now in
    rw c.in-Some.is (file_written c.write_table_file.result (named_text c.in-Some.name.now text)
    (g.D.Disk.view c.args.disk.now).files (g.D.Disk.view c.write_table_file.new.disk).files
    c.write_table_file.ensures.ok)

pub returns-in-Some-clause-stopped : goal.returns-in-Some-clause-stopped
returns-in-Some-clause-stopped g c =
    let text = table_by g.P.TableRow.row_of g.F.TableFate.entry_of c.args.rows.now c.args.fates.now in
    rw c.in-Some.is (file_stops c.write_table_file.result (named_text c.in-Some.name.now text)
    (g.D.Disk.view c.args.disk.now) (g.D.Disk.view c.write_table_file.new.disk) c.write_table_file.ensures.partly
    c.write_table_file.ensures.stopped)
