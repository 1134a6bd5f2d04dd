use Rattle.std.proofs.Common.{◌++◌, [], length}
use Rattle.shell_log.specs.LogParts.{IsLeft}
use Rattle.shell_log.proofs.reading.read_text.Given as goal

abbrev pub invariant-entries : goal.invariant-entries
invariant-entries l = IsLeft (l.text ++ []) (l.rest ++ []) l.log.entries l.reader

abbrev pub decreases-entries : goal.decreases-entries
decreases-entries l = length l.rest
