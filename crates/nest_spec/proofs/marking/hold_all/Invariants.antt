use Rattle.std.proofs.Common.{◌≡◌, ◌≤◌, length, drop}
use Rattle.packet_record.specs.declared.packet.Row.{Row}
use Rattle.nest_spec.specs.declared.fate.Fate.{Fate}
use Rattle.nest_spec.specs.Fates.{fated}
use Rattle.nest_spec.specs.Marks.{held_in}
use Rattle.nest_spec.specs.views.MarkedRows.{rows_in}
use Rattle.nest_spec.proofs.marking.hold_all.Given as goal

abbrev pub invariant-ids : goal.invariant-ids
invariant-ids l = record {
  left : l.left ≤ length l.ids;
  long : length l.list.items ≡ length (rows_in l.rows);
  fates : (f : Row → Fate) → l.fn.list.items ≡ fated f (rows_in l.rows)
      → l.list.items ≡ fated (held_in (drop l.left l.ids) l.shell f) (rows_in l.rows);
}

abbrev pub decreases-ids : goal.decreases-ids
decreases-ids l = l.left
