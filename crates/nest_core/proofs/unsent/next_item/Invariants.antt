use Rattle.std.proofs.Common.{◌≡◌, ◌-◌, length, drop}
use Rattle.packet_record.specs.Sources.{items_from}
use Rattle.nest_core.proofs.unsent.next_item.Given as goal

abbrev pub invariant-loop-place : goal.invariant-loop-place
invariant-loop-place l = items_from l.direction l.horizon l.sent (drop l.fn.place l.rows) ≡ items_from l.direction
    l.horizon l.sent (drop l.place l.rows)

abbrev pub decreases-loop-place : goal.decreases-loop-place
decreases-loop-place l = length l.rows - l.place
