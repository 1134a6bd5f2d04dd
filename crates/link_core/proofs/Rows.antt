-- The definitions on small cases.
use Rattle.std.proofs.Common.{◌≡◌, ℕ, ◌≤◌, false, List, [], ◌∷◌, Some, None, refl, lit≤}
use Rattle.packet_record.specs.declared.packet.Timed.{Timed}
use Rattle.packet_queue.specs.declared.spec.QueueKind.TheVariants.{Infinite, DropTail, DropHead}
use Rattle.packet_queue.specs.declared.spec.QueueSpec.{QueueSpec}
use Rattle.shell_log.specs.declared.entry.Entry.TheVariants.{Arrival, Opportunity, Departure, Drop}
use Rattle.trace_reader.specs.declared.opportunity.Opportunity as opportunity
use Rattle.trace_reader.specs.Opps.{opps, entries}
use Rattle.link_core.specs.Links.{link_out, link_lost, link_log, link_inside}

abbrev packet : (moment id size : ℕ) → 1 ≤ size → size ≤ 1504 → Timed
packet moment id size some most =
    record { moment = moment; packet = record { id = id; size = size; some = some; most = most } }

abbrev at : ℕ → opportunity.Opportunity
at moment = record { moment = moment; bytes = 1504; some = lit≤ tt; most = lit≤ tt }

abbrev queue : QueueSpec
queue = record { kind = Infinite; packets = None; bytes = None }

-- a packet that arrives at an opportunity's moment waits for the next
arrives_late : link_log queue (at 1 ∷ at 2 ∷ []) (packet 1 1 1504 (lit≤ tt) (lit≤ tt) ∷ [])
    ≡ Opportunity 1 1504 ∷ Arrival 1 1504 ∷ Opportunity 2 1504 ∷ Departure 2 1504 1 ∷ []
arrives_late = refl

-- what one opportunity doesn't use is lost
bytes_unused : link_log queue (at 1 ∷ at 2 ∷ [])
    (packet 0 1 500 (lit≤ tt) (lit≤ tt) ∷ packet 0 2 500 (lit≤ tt) (lit≤ tt) ∷ packet 0 3 500 (lit≤ tt) (lit≤ tt) ∷
    packet 0 4 500 (lit≤ tt) (lit≤ tt) ∷ [])
    ≡ Arrival 0 500 ∷ Arrival 0 500 ∷ Arrival 0 500 ∷ Arrival 0 500 ∷ Opportunity 1 1504 ∷ Departure 1 500 1 ∷
    Departure 1 500 1 ∷ Departure 1 500 1
    ∷ Opportunity 2 1504 ∷ Departure 2 500 2 ∷ []
bytes_unused = refl

-- two opportunities at one moment, and a packet that stays
two_at_once : link_out queue (at 3 ∷ at 3 ∷ [])
    (packet 0 1 1504 (lit≤ tt) (lit≤ tt) ∷ packet 0 2 1504 (lit≤ tt) (lit≤ tt) ∷ packet 0 3 1504 (lit≤ tt) (lit≤ tt) ∷
    [])
    ≡ packet 3 1 1504 (lit≤ tt) (lit≤ tt) ∷ packet 3 2 1504 (lit≤ tt) (lit≤ tt) ∷ []
two_at_once = refl

one_inside : link_inside queue (at 3 ∷ at 3 ∷ [])
    (packet 0 1 1504 (lit≤ tt) (lit≤ tt) ∷ packet 0 2 1504 (lit≤ tt) (lit≤ tt) ∷ packet 0 3 1504 (lit≤ tt) (lit≤ tt) ∷
    []) ≡ packet 0 3 1504 (lit≤ tt) (lit≤ tt) ∷ []
one_inside = refl

-- droptail, at most 250 bytes
tail_250 : link_log (record { kind = DropTail; packets = None; bytes = Some 250 }) (at 10 ∷ [])
    (packet 0 1 100 (lit≤ tt) (lit≤ tt) ∷ packet 0 2 200 (lit≤ tt) (lit≤ tt) ∷ packet 0 3 150 (lit≤ tt) (lit≤ tt) ∷ [])
    ≡ Arrival 0 100 ∷ Arrival 0 200 ∷ Drop 0 1 200 ∷ Arrival 0 150 ∷ Opportunity 10 1504 ∷ Departure 10 100 10 ∷
    Departure 10 150 10 ∷ []
tail_250 = refl

-- drophead, at most two packets; at moment 1 the second is in transit and doesn't count
abbrev two_packets : QueueSpec
two_packets = record { kind = DropHead; packets = Some 2; bytes = None }

abbrev five : List Timed
five = packet 0 1 1000 (lit≤ tt) (lit≤ tt) ∷ packet 0 2 1000 (lit≤ tt) (lit≤ tt) ∷ packet 1 3 800 (lit≤ tt)
    (lit≤ tt) ∷ packet 1 4 800 (lit≤ tt) (lit≤ tt) ∷ packet 1 5 700 (lit≤ tt) (lit≤ tt) ∷ []

head_two : link_log two_packets (at 1 ∷ at 2 ∷ at 3 ∷ []) five
    ≡ Arrival 0 1000 ∷ Arrival 0 1000 ∷ Opportunity 1 1504 ∷ Departure 1 1000 1 ∷ Arrival 1 800 ∷ Arrival 1 800 ∷
    Arrival 1 700 ∷ Drop 1 1 800
    ∷ Opportunity 2 1504 ∷ Departure 2 1000 2 ∷ Departure 2 800 1 ∷ Opportunity 3 1504 ∷ Departure 3 700 2 ∷ []
head_two = refl

head_two_lost : link_lost two_packets (at 1 ∷ at 2 ∷ at 3 ∷ []) five ≡ packet 1 3 800 (lit≤ tt) (lit≤ tt) ∷ []
head_two_lost = refl

-- drophead may drop the new packet too
head_250 : link_log (record { kind = DropHead; packets = None; bytes = Some 250 }) (at 10 ∷ [])
    (packet 0 1 100 (lit≤ tt) (lit≤ tt) ∷ packet 0 2 200 (lit≤ tt) (lit≤ tt) ∷ packet 0 3 300 (lit≤ tt) (lit≤ tt) ∷ [])
    ≡ Arrival 0 100 ∷ Arrival 0 200 ∷ Drop 0 1 100 ∷ Arrival 0 300 ∷ Drop 0 2 500 ∷ Opportunity 10 1504 ∷ []
head_250 = refl

-- opportunities with bytes of their own
abbrev offer : (moment bytes : ℕ) → 1 ≤ bytes → bytes ≤ 1000000 → opportunity.Opportunity
offer moment bytes some most = record { moment = moment; bytes = bytes; some = some; most = most }

own_bytes : link_log queue (offer 1 500 (lit≤ tt) (lit≤ tt) ∷ offer 2 3000 (lit≤ tt) (lit≤ tt) ∷ offer 3 500 (lit≤ tt)
    (lit≤ tt) ∷ offer 4 3000 (lit≤ tt) (lit≤ tt) ∷ [])
    (packet 0 1 1504 (lit≤ tt) (lit≤ tt) ∷ packet 0 2 1504 (lit≤ tt) (lit≤ tt) ∷ [])
    ≡ Arrival 0 1504 ∷ Arrival 0 1504 ∷ Opportunity 1 500 ∷ Opportunity 2 3000 ∷ Departure 2 1504 2 ∷ Departure 2 1504
    2 ∷ Opportunity 3 500 ∷ Opportunity 4 3000 ∷ []
own_bytes = refl

-- a trace of two moments, again and again up to moment 15
again : link_log queue (opps (at 0 ∷ at 5 ∷ []) false 15) []
    ≡ Opportunity 0 1504 ∷ Opportunity 5 1504 ∷ Opportunity 5 1504 ∷ Opportunity 10 1504 ∷ Opportunity 10 1504 ∷
    Opportunity 15 1504 ∷ Opportunity 15 1504 ∷ []
unfolding opps entries
again = refl
