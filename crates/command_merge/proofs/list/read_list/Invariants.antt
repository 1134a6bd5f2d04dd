use Rattle.std.proofs.Common.{◌≡◌, ◌≤◌, ◌+◌, ◌++◌, length, map}
use Rattle.text_base.specs.Lines.{lines_of}
use Rattle.text_base.specs.LinesLeft.{lines_left}
use Rattle.command_merge.specs.List.{line_fault, list_fault}
use Rattle.command_merge.proofs.list.read_list.Given as goal

abbrev pub invariant-loop-line : goal.invariant-loop-line
invariant-loop-line l = record {
  can : (goal.iterator-loop-line).can_next l.line-iterator;
  ends : (goal.iterator-loop-line).is_finite l.line-iterator;
  few : length l.names.items ≤ 16;
  lines : lines_of l.fn.text ≡ map (λ name. name.now) l.names.items ++ lines_left l.line-iterator;
  exact : line_fault (length l.names.items + 1) (lines_left l.line-iterator) ≡ list_fault l.fn.text;
}
