use Rattle.std.proofs.Common.{◌≡◌, take}
use Rattle.mm_base.specs.Disk.{OnlyWrites}
use Rattle.nest_spec.specs.RunViews.{entries_in, named_by}
use Rattle.command_ends.specs.Outputs.{holding_all}
use Rattle.nest_command.proofs.OutputLemmas.{files_by}
use Rattle.nest_command.proofs.whole_logs.write_whole_logs.Given as goal

abbrev pub invariant-loop-log : goal.invariant-loop-log
invariant-loop-log g l = record {
  whole : (g.D.Disk.view l.disk).files ≡ holding_all (files_by (named_by entries_in) (take l.log-index l.logs))
      (g.D.Disk.view l.fn.disk).files;
  only_writes : OnlyWrites (g.D.Disk.view l.fn.disk) (g.D.Disk.view l.disk);
}
