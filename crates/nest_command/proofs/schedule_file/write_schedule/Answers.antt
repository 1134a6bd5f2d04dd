use Rattle.packet_record.specs.Printing.{schedule_text}
use Rattle.command_ends.specs.Outputs.{named_text}
use Rattle.nest_command.proofs.OutputLemmas.{file_stops, file_written}
use Rattle.nest_command.proofs.schedule_file.write_schedule.Goals as goal

pub returns-in-Some-clause-ok : goal.returns-in-Some-clause-ok
returns-in-Some-clause-ok g c =
    rw c.in-Some.is (file_written c.write_schedule_file.result
    (named_text c.in-Some.name.now (schedule_text c.args.rows.now))
    (g.D.Disk.view c.args.disk.now).files (g.D.Disk.view c.write_schedule_file.new.disk).files
    c.write_schedule_file.ensures.ok)

pub returns-in-Some-clause-stopped : goal.returns-in-Some-clause-stopped
returns-in-Some-clause-stopped g c =
    rw c.in-Some.is (file_stops c.write_schedule_file.result
    (named_text c.in-Some.name.now (schedule_text c.args.rows.now))
    (g.D.Disk.view c.args.disk.now) (g.D.Disk.view c.write_schedule_file.new.disk)
    c.write_schedule_file.ensures.partly c.write_schedule_file.ensures.stopped)
