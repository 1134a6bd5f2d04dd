use Rattle.std.proofs.Common.{◌≡◌, Some, None, map}
use Rattle.packet_queue.specs.Arguments.{items_of, trimmed}
use Rattle.packet_queue.specs.inside.Reading.{limits, read_on, items_after}
use Rattle.packet_queue.proofs.ArgumentsLemmas.{length_after}
use Rattle.packet_queue.proofs.reading.read_limits.Given as goal

abbrev pub invariant-items : goal.invariant-items
invariant-items l = read_on (Some l.limits) (map trimmed (items_after l.rest)) ≡ read_on (Some (limits None None))
    (items_of l.fn.args)

abbrev pub decreases-items : goal.decreases-items
decreases-items l = length_after l.rest
