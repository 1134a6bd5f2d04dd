use Rattle.std.proofs.Common.{◌≡◌, ◌++◌, length}
use Rattle.std.specs.List.{flat_map}
use Rattle.text_base.proofs.printing.print_lines.Given as goal

abbrev pub invariant-pieces : goal.invariant-pieces
invariant-pieces g l = l.text ++ flat_map g.T.PrintLine.line l.left ≡ l.first ++ flat_map g.T.PrintLine.line l.items

abbrev pub decreases-pieces : goal.decreases-pieces
decreases-pieces g l = length l.left
