use Rattle.std.proofs.Common.{◌≡◌, ◌+◌, ◌*◌, ◌≤◌, length, drop}
use Rattle.std.specs.List.{flat_map}
use Rattle.text_base.proofs.printing.put_lines.Given as goal

abbrev pub invariant-lines : goal.invariant-lines
invariant-lines g l = record {
  so_far : l.lines ≡ flat_map g.T.PrintLine.line (drop l.left l.items);
  few : l.left ≤ length l.items;
  room : length l.lines + l.left * 72 ≤ 147456;
}

-- proposed from the loop's first test
abbrev pub decreases-lines : goal.decreases-lines
decreases-lines g l = l.left
