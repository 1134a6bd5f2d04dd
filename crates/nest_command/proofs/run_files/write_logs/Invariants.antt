use Rattle.std.proofs.Common.{◌≡◌, ◌++◌}
use Rattle.mm_base.specs.Disk.{OnlyWrites}
use Rattle.nest_plain.specs.Unwritten.{unwritten_log}
use Rattle.command_ends.specs.Outputs.{holding_all}
use Rattle.nest_command.proofs.OutputLemmas.{files_by}
use Rattle.nest_command.proofs.run_files.write_logs.Given as goal

abbrev pub invariant-loop-log : goal.invariant-loop-log
invariant-loop-log g l = record {
  all : l.fn.logs.items ≡ l.yielded ++ l.log-iterator.rest.items;
  whole : (g.D.Disk.view l.disk).files ≡ holding_all (files_by unwritten_log l.yielded) (g.D.Disk.view l.fn.disk).files;
  only_writes : OnlyWrites (g.D.Disk.view l.fn.disk) (g.D.Disk.view l.disk);
}
