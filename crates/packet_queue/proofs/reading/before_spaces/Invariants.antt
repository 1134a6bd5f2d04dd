use Rattle.std.proofs.Common.{◌≡◌, length, reverse}
use Rattle.packet_queue.specs.Arguments.{after_spaces}
use Rattle.packet_queue.proofs.reading.before_spaces.Given as goal

abbrev pub invariant-spaces : goal.invariant-spaces
invariant-spaces l = after_spaces (reverse l.rest) ≡ after_spaces (reverse l.fn.text)

abbrev pub decreases-spaces : goal.decreases-spaces
decreases-spaces l = length l.rest
