use Rattle.std.proofs.Common.{length}
use Rattle.base_tests.proofs.log.count_entries.Given as goal

abbrev pub decreases-entries : goal.decreases-entries
decreases-entries l = length l.rest
