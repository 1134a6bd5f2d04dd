use Rattle.std.proofs.Common.{length}
use Rattle.nest_spec.proofs.link_words.+read_link_words.Given as goal

abbrev pub decreases-read_link_words : goal.decreases-read_link_words
decreases-read_link_words l = length l.words.now
