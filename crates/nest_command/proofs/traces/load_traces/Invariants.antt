use Rattle.std.proofs.Common.{◌≡◌, List, ℕ, None, IfSome, take}
use Rattle.mm_base.specs.Disk.{OnlyReads}
use Rattle.trace_reader.specs.Reading.{trace_fault}
use Rattle.trace_reader.specs.TraceText.{IsTraceText}
use Rattle.nest_command.specs.Loaded.{HaveTraces}
use Rattle.nest_command.proofs.traces.load_traces.Given as goal

abbrev pub invariant-loop-name : goal.invariant-loop-name
invariant-loop-name g l = record {
  so_far : (texts : List (List ℕ)) × HaveTraces (g.D.Disk.view l.fn.disk).files (take l.name-index l.names) texts
      l.traces.items;
  only_reads : OnlyReads (g.D.Disk.view l.fn.disk) (g.D.Disk.view l.disk);
  before : IfSome l.before (λ file. IsTraceText file.text file.trace);
  no_fault : IfSome l.before (λ file. trace_fault file.text ≡ None);
}
