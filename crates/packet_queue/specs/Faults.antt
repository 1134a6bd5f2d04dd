-- The numbers of the refusals.
use Rattle.std.specs.Prelude.{ℕ}
use Rattle.packet_queue.specs.declared.spec.QueueError.{QueueError}
use Rattle.packet_queue.specs.declared.spec.QueueError.TheVariants.{UnknownKind, BadArgs, NoLimit, LimitOnInfinite}

abbrev pub number_of_fault : QueueError → ℕ
number_of_fault UnknownKind = 1
number_of_fault BadArgs = 2
number_of_fault NoLimit = 3
number_of_fault LimitOnInfinite = 4
