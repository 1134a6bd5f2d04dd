-- Reading arguments item by item.
use Rattle.std.specs.Prelude.{ℕ, ◌==◌, List, [], ◌∷◌, Option, Some, None, Result, Err, option_to_list}
use Rattle.std.specs.Borrow.{Bor}
use Rattle.std.specs.List.{slice_split}
use Rattle.packet_queue.specs.declared.reading.Limits.{Limits}
use Rattle.packet_queue.specs.declared.spec.QueueKind.{QueueKind}
use Rattle.packet_queue.specs.declared.spec.QueueSpec.{QueueSpec}
use Rattle.packet_queue.specs.declared.spec.QueueError.{QueueError}
use Rattle.packet_queue.specs.declared.spec.QueueError.TheVariants.{BadArgs}
use Rattle.packet_queue.specs.Arguments.{number_of, packets_name, bytes_name, limit_of, with_limits}

abbrev pub limits : Option ℕ → Option ℕ → Limits
limits packets bytes = record { packets = packets; bytes = bytes }

abbrev pub when_free : Option ℕ → Limits → Option Limits
when_free None l = Some l
when_free (Some n) l = None

abbrev pub with_bytes : Limits → Option ℕ → Option Limits
with_bytes l None = None
with_bytes l (Some n) = when_free l.bytes (limits l.packets (Some n))

abbrev pub with_packets : Limits → Option ℕ → Option ℕ → Option Limits
with_packets l None n = with_bytes l n
with_packets l (Some n) m = when_free l.packets (limits (Some n) l.bytes)

-- the limits after one more item, if it is one and its name is new
abbrev pub with_item : Limits → List ℕ → Option Limits
with_item l item = with_packets l (number_of packets_name item) (number_of bytes_name item)

-- the limits after these items
abbrev pub read_on : Option Limits → List (List ℕ) → Option Limits
read_on None items = None
read_on (Some l) [] = Some l
read_on (Some l) (item ∷ items) = read_on (with_item l item) items

-- the queue with the limits that were read
abbrev pub limited_by : QueueKind → Option Limits → Result QueueSpec QueueError
limited_by kind None = Err BadArgs
limited_by kind (Some l) = with_limits kind (limit_of (option_to_list l.packets)) (limit_of (option_to_list l.bytes))

-- what stands between the commas of what is left
abbrev pub items_after : Option (Bor (List ℕ)) → List (List ℕ)
items_after None = []
items_after (Some more) = slice_split (λ b. b == 44) more.now
