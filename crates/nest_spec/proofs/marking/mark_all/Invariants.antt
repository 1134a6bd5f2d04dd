use Rattle.std.proofs.Common.{◌≡◌, ◌≤◌, length, drop}
use Rattle.packet_record.specs.declared.packet.Row.{Row}
use Rattle.nest_spec.specs.declared.fate.Fate.{Fate}
use Rattle.nest_spec.specs.Fates.{fated}
use Rattle.nest_spec.specs.Marks.{marked}
use Rattle.nest_spec.specs.views.MarkedRows.{rows_in}
use Rattle.nest_spec.proofs.marking.mark_all.Given as goal

abbrev pub invariant-packets : goal.invariant-packets
invariant-packets l = record {
  left : l.left ≤ length l.packets;
  long : length l.list.items ≡ length (rows_in l.rows);
  fates : (f : Row → Fate) → l.fn.list.items ≡ fated f (rows_in l.rows)
      → l.list.items ≡ fated (marked (drop l.left l.packets) l.mark f) (rows_in l.rows);
}

abbrev pub decreases-packets : goal.decreases-packets
decreases-packets l = l.left
