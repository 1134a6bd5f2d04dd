use Rattle.std.proofs.Common.{◌-◌}
use Rattle.mm_base.specs.Disk.{OnlyReads}
use Rattle.mark_channel.specs.Boths.{BothKeep}
use Rattle.mark_channel.specs.Ends.{IsSameEnd}
use Rattle.shell_workers.specs.inside.Reading.{HasReadFront}
use Rattle.shell_workers.specs.inside.Sent.{HaveSent}
use Rattle.shell_workers.specs.Sending.{AreAt}
use Rattle.shell_workers.proofs.streaming.stream_pieces.Given as goal

abbrev pub invariant-pieces : goal.invariant-pieces
invariant-pieces g l = record {
  is_at : AreAt l.horizon l.sent l.heads;
  sent : HaveSent l.horizon l.file.text.gathered.rows l.sent l.heads;
  front : HasReadFront (g.D.Disk.view l.fn.disk).files l.fn.file l.file;
  same : BothKeep IsSameEnd l.fn.heads l.heads;
  only_reads : OnlyReads (g.D.Disk.view l.fn.disk) (g.D.Disk.view l.disk);
}

abbrev pub decreases-pieces : goal.decreases-pieces
decreases-pieces g l = l.file.place.size - l.file.place.at
