use Rattle.std.proofs.Common.{◌≡◌, ◌+◌, ◌*◌, ◌≤◌, length, drop}
use Rattle.nest_spec.specs.TableText.{table_lines}
use Rattle.nest_spec.proofs.table_text.put_table.Given as goal

abbrev pub invariant-lines : goal.invariant-lines
invariant-lines g l = record {
  so_far : l.lines ≡ table_lines g.P.TableRow.row_of g.F.TableFate.entry_of (drop l.left l.rows) (drop l.left l.fates);
  rows : l.left ≤ length l.rows;
  fates : l.left ≤ length l.fates;
  room : length l.lines + l.left * 144 ≤ 147456;
}

abbrev pub decreases-lines : goal.decreases-lines
decreases-lines g l = l.left
