use Rattle.std.proofs.Common.{◌≡◌, drop, map, take}
use Rattle.packet_record.specs.declared.packet.Direction.TheVariants.{Up, Down}
use Rattle.packet_record.specs.Rows.{Rises, entering}
use Rattle.sender_merge.specs.Merges.{merged_row}
use Rattle.mark_channel.specs.Boths.{BothKeep, ByDirection}
use Rattle.mark_channel.specs.Ends.{IsSameEnd}
use Rattle.shell_workers.specs.Sending.{AreAt}
use Rattle.sender_merge.specs.inside.RowMerges.{AllNumbered}
use Rattle.sender_merge.proofs.Sending.{GoesOn}
use Rattle.sender_merge.proofs.outlet.Outlet.send_schedule.Given as goal

abbrev pub invariant-loop-row : goal.invariant-loop-row
invariant-loop-row g l = record {
  is_at : AreAt l.horizon l.sent l.heads;
  rises : Rises l.sent.up (drop l.row-index l.schedule) × Rises l.sent.down (drop l.row-index l.schedule);
  numbered : AllNumbered (drop l.row-index l.schedule);
  packets : ByDirection (λ d head. head.flow.packets
      ≡ entering d l.horizon (map (merged_row l.sender) (take l.row-index l.schedule))) l.heads;
  same : BothKeep IsSameEnd l.fn.self.heads l.heads;
  up : GoesOn Up l.horizon l.sent.up (map (merged_row l.sender) (take l.row-index l.schedule)) l.heads.up.items;
  down :
      GoesOn Down l.horizon l.sent.down (map (merged_row l.sender) (take l.row-index l.schedule)) l.heads.down.items;
}
