use Rattle.std.proofs.Common.{◌≡◌, ◌-◌}
use Rattle.mm_base.specs.Disk.{OnlyReads}
use Rattle.shell_workers.specs.inside.Reading.{IsReading}
use Rattle.shell_workers.proofs.schedule_file.ScheduleFile.skip.Given as goal

abbrev pub invariant-pieces : goal.invariant-pieces
invariant-pieces g l = record {
  reading : IsReading l.self;
  name : l.self.place.name.now ≡ l.fn.self.place.name.now;
  text : l.self.text ≡ l.fn.self.text;
  only_reads : OnlyReads (g.D.Disk.view l.fn.disk) (g.D.Disk.view l.disk);
}

abbrev pub decreases-pieces : goal.decreases-pieces
decreases-pieces g l = l.self.place.size - l.self.place.at
