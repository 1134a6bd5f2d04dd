use Rattle.std.proofs.Common.{◌≡◌, take}
use Rattle.trace_reader.specs.TraceText.{trace_text}
use Rattle.trace_reader.proofs.printing.print_trace.Given as goal

abbrev pub invariant-loop-packed : goal.invariant-loop-packed
invariant-loop-packed l = l.out ≡ trace_text
    (record l.trace { opportunities = take l.packed-index l.trace.opportunities })
