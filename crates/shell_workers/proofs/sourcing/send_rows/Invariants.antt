use Rattle.std.proofs.Common.{drop, take}
use Rattle.packet_record.specs.declared.packet.Direction.TheVariants.{Up, Down}
use Rattle.packet_record.specs.Rows.{Rises}
use Rattle.mark_channel.specs.Boths.{BothKeep}
use Rattle.mark_channel.specs.Ends.{IsSameEnd}
use Rattle.shell_workers.specs.inside.Sent.{SendsOn}
use Rattle.shell_workers.specs.Sending.{AreAt}
use Rattle.shell_workers.proofs.sourcing.send_rows.Given as goal

abbrev pub invariant-loop-row : goal.invariant-loop-row
invariant-loop-row g l = record {
  is_at : AreAt l.horizon l.sent l.heads;
  rises : Rises l.sent.up (drop l.row-index l.rows) × Rises l.sent.down (drop l.row-index l.rows);
  up : SendsOn Up l.horizon (take l.row-index l.rows) l.fn.sent.up l.sent.up l.fn.heads.up l.heads.up;
  down : SendsOn Down l.horizon (take l.row-index l.rows) l.fn.sent.down l.sent.down l.fn.heads.down l.heads.down;
  same : BothKeep IsSameEnd l.fn.heads l.heads;
}
