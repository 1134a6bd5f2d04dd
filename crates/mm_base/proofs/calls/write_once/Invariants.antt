-- a call that is interrupted writes nothing
use Rattle.std.specs.Io.KnownBytes.{Keeps}
use Rattle.mm_base.proofs.calls.write_once.Given as goal

abbrev pub invariant-calls : goal.invariant-calls
invariant-calls g l = Keeps (g.W.Write.contents l.initial.writer) (g.W.Write.contents l.writer)
