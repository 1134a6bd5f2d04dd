use Rattle.std.proofs.Common.{◌≡◌, ◌≤◌, ◌++◌, Some, length, map}
use Rattle.text_base.specs.Lines.{lines_of}
use Rattle.trace_reader.specs.TraceText.{stated, said_of, said}
use Rattle.trace_reader.specs.Reading.{first_fault, trace_fault}
use Rattle.trace_reader.proofs.TextFaults.{IsRead}
use Rattle.trace_reader.proofs.reading.read_text.Given as goal

abbrev pub invariant-lines : goal.invariant-lines
invariant-lines l = record {
  few : length l.list.items ≤ 1000000;
  read : IsRead l.form l.list.items l.low;
  lines : map (said_of l.form) (stated (lines_of l.fn.text)) ≡ map (λ o. Some (said o)) l.list.items
      ++ map (said_of l.form) (lines_of l.rest);
  exact : first_fault l.form (length l.list.items) l.low (lines_of l.rest) ≡ trace_fault l.fn.text;
}

abbrev pub decreases-lines : goal.decreases-lines
decreases-lines l = length l.rest
