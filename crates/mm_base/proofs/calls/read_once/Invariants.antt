-- a call that is interrupted reads nothing
use Rattle.std.proofs.Common.{◌≡◌, length}
use Rattle.std.specs.Io.KnownBytes.{Keeps}
use Rattle.mm_base.proofs.calls.read_once.Given as goal

abbrev pub invariant-calls : goal.invariant-calls
invariant-calls g l = (length l.buf ≡ length l.initial.buf)
    × Keeps (g.R.Read.remaining l.initial.reader) (g.R.Read.remaining l.reader)
