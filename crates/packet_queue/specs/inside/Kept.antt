-- What holds of the packets that wait, whatever came before.
use Rattle.std.specs.Prelude.{◌≡◌, true, List}
use Rattle.packet_record.specs.declared.packet.Timed.{Timed}
use Rattle.packet_queue.specs.declared.spec.QueueKind.{QueueKind}
use Rattle.packet_queue.specs.declared.spec.QueueKind.TheVariants.{Infinite, DropTail, DropHead}
use Rattle.packet_queue.specs.declared.spec.QueueSpec.{QueueSpec}
use Rattle.packet_queue.specs.Queues.{fits}

abbrev pub AreKeptBy : QueueKind → QueueSpec → List Timed → Type 0
AreKeptBy Infinite q ts = Unit {0}
AreKeptBy DropTail q ts = fits q ts ≡ true
AreKeptBy DropHead q ts = fits q ts ≡ true

-- a queue that drops is within its limits
abbrev pub AreKept : QueueSpec → List Timed → Type 0
AreKept q ts = AreKeptBy q.kind q ts
