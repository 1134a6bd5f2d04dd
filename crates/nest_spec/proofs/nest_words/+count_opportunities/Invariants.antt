use Rattle.std.proofs.Common.{length}
use Rattle.nest_spec.proofs.nest_words.+count_opportunities.Given as goal

abbrev pub decreases-count_opportunities : goal.decreases-count_opportunities
decreases-count_opportunities l = length l.shells.now
