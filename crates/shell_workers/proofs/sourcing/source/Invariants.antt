use Rattle.std.proofs.Common.{drop, take}
use Rattle.packet_record.specs.declared.packet.Direction.TheVariants.{Up, Down}
use Rattle.packet_record.specs.Rows.{Rises}
use Rattle.mark_channel.specs.Ends.{IsSameEnd}
use Rattle.shell_workers.specs.inside.Sent.{SendsOn}
use Rattle.shell_workers.specs.Sending.{IsAt}
use Rattle.shell_workers.proofs.sourcing.source.Given as goal

abbrev pub invariant-loop-row : goal.invariant-loop-row
invariant-loop-row g l = record {
  is_at : IsAt l.horizon l.sent.up l.up × IsAt l.horizon l.sent.down l.down;
  rises : Rises l.sent.up (drop l.row-index l.rows) × Rises l.sent.down (drop l.row-index l.rows);
  up_on : SendsOn Up l.horizon (take l.row-index l.rows) 0 l.sent.up l.fn.up l.up;
  down_on : SendsOn Down l.horizon (take l.row-index l.rows) 0 l.sent.down l.fn.down l.down;
  same : IsSameEnd l.fn.up l.up × IsSameEnd l.fn.down l.down;
}
