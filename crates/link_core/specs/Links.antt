-- What one direction of a link makes of its opportunities and arrivals, over whole lists in order (mm-link). There is
-- no queue here, no packet in transit and no event: sums over lists say what departs, what is lost and what the log
-- has.
use Rattle.std.specs.Prelude.{ℕ, suc, ◌+◌, ◌-◌, ◌++◌, ◌==◌, Bool, true, false, List, [], ◌∷◌, Option, Some, None}
use Rattle.std.specs.Prelude.{option_to_list, nat_le, nat_lt, slice_get, fold, filter, map, length, if◌then◌else◌}
use Rattle.std.specs.Option.{option_map, option_and_then}
use Prim.Native.Nat.{min}
use Rattle.packet_record.specs.declared.packet.Timed.{Timed}
use Rattle.packet_queue.specs.declared.spec.QueueSpec.{QueueSpec}
use Rattle.packet_record.specs.Packets.{bytes, moved_to}
use Rattle.packet_queue.specs.Queues.{enqueued, dropped}
use Rattle.shell_log.specs.declared.entry.Entry.{Entry}
use Rattle.shell_log.specs.declared.entry.Entry.TheVariants as entries
use Rattle.trace_reader.specs.declared.opportunity.Opportunity.{Opportunity}
use Rattle.trace_reader.specs.Opps.{up_to}
use Rattle.link_core.specs.Stream.{waiting, ahead}

-- the bytes of the packets that arrived before this moment
abbrev pub below : ℕ → List Timed → ℕ
below moment ts = bytes (filter (λ t. nat_lt t.moment moment) ts)

-- Sent: how many bytes of the kept packets the opportunities carry. Each carries no more than it offers, and only what
-- arrived before it; what it doesn't use is lost.
abbrev pub sent_with : List Timed → ℕ → Opportunity → ℕ
sent_with kept n o = min (n + o.bytes) (below o.moment kept)

abbrev pub sent : List Timed → List Opportunity → ℕ
sent kept opps = fold (sent_with kept) 0 opps

-- how many bytes had been sent when a packet arrives: opportunities up to and including its moment come before it
abbrev pub sent_before : List Opportunity → List Timed → Timed → ℕ
sent_before opps kept t = sent kept (up_to t.moment opps)

-- Keep: the packets that the queue has kept after these arrivals. What waits at an arrival is what no byte has gone of.
-- It may be dropped; what is ahead of it stays.
abbrev pub keep_with : QueueSpec → List Opportunity → List Timed → Timed → List Timed
keep_with q opps kept t = ahead (sent_before opps kept t) kept ++ enqueued q (waiting (sent_before opps kept t) kept) t

abbrev pub keep : QueueSpec → List Opportunity → List Timed → List Timed
keep q opps arrivals = fold (keep_with q opps) [] arrivals

-- what an arrival drops
abbrev pub drop_with : QueueSpec → List Opportunity → List Timed → Timed → List Timed
drop_with q opps kept t = dropped q (waiting (sent_before opps kept t) kept) t

-- what the arrivals drop, one by one, where these packets were kept before; each at the moment of the arrival
abbrev pub lost_from : QueueSpec → List Opportunity → List Timed → List Timed → List Timed
lost_from q opps kept [] = []
lost_from q opps kept (t ∷ ts) = map (moved_to t.moment) (drop_with q opps kept t)
    ++ lost_from q opps (keep_with q opps kept t) ts

abbrev pub link_lost : QueueSpec → List Opportunity → List Timed → List Timed
link_lost q opps arrivals = lost_from q opps [] arrivals

-- the bytes sent with the first opportunity, with the first two, and so on, where n went before
abbrev pub sums_sent : List Timed → ℕ → List Opportunity → List ℕ
sums_sent kept n [] = []
sums_sent kept n (o ∷ os) = sent_with kept n o ∷ sums_sent kept (sent_with kept n o) os

-- the place, from 0, of the first sum that is at least n
abbrev pub first_reaching : ℕ → List ℕ → Option ℕ
first_reaching n [] = None
first_reaching n (m ∷ ms) = if nat_le n m then Some 0 else option_map suc (first_reaching n ms)

-- the number, from 0, of the first opportunity with which the first n bytes are sent
abbrev pub first_sent : List Timed → List Opportunity → ℕ → Option ℕ
first_sent kept opps n = first_reaching n (sums_sent kept 0 opps)

-- the packet, where an opportunity has this number, at its moment
abbrev pub departure_at : List Opportunity → Option ℕ → Timed → List Timed
departure_at opps number t = option_to_list
    (option_map (λ (o : Opportunity). moved_to o.moment t) (option_and_then (slice_get opps) number))

-- each kept packet at the first opportunity with which it and all before it are sent; the others don't depart
abbrev pub departing : List Timed → List Opportunity → ℕ → List Timed → List Timed
departing kept opps before [] = []
departing kept opps before (t ∷ ts) =
    departure_at opps (first_sent kept opps (before + t.packet.size)) t
    ++ departing kept opps (before + t.packet.size) ts

abbrev pub link_out : QueueSpec → List Opportunity → List Timed → List Timed
link_out q opps arrivals = departing (keep q opps arrivals) opps 0 (keep q opps arrivals)

-- the kept packets whose first such opportunity passes the test
abbrev pub leaving : (Option ℕ → Bool) → List Timed → List Opportunity → ℕ → List Timed → List Timed
leaving test kept opps before [] = []
leaving test kept opps before (t ∷ ts) =
    (if test (first_sent kept opps (before + t.packet.size)) then t ∷ [] else [])
    ++ leaving test kept opps (before + t.packet.size) ts

abbrev pub is_number : ℕ → Option ℕ → Bool
is_number i None = false
is_number i (Some j) = j == i

abbrev pub is_no_number : Option ℕ → Bool
is_no_number None = true
is_no_number (Some j) = false

-- the kept packets that don't depart
abbrev pub link_inside : QueueSpec → List Opportunity → List Timed → List Timed
link_inside q opps arrivals = leaving is_no_number (keep q opps arrivals) opps 0 (keep q opps arrivals)

-- entries of the log, at a moment
abbrev pub Lines : Type 0
Lines = ℕ × List Entry

abbrev pub departure_line : ℕ → Timed → Entry
departure_line moment t = entries.Departure moment t.packet.size (moment - t.moment)

-- each opportunity, and then the departures whose first opportunity it is
abbrev pub opportunity_lines : List Timed → List Opportunity → ℕ → List Opportunity → List Lines
opportunity_lines kept opps i [] = []
opportunity_lines kept opps i (o ∷ os) = (
  o.moment,
  entries.Opportunity o.moment o.bytes ∷ map (departure_line o.moment)
      (leaving (is_number i) kept opps 0 kept),
)
    ∷ opportunity_lines kept opps (suc i) os

abbrev pub drop_line_by : ℕ → ℕ → ℕ → List Entry
drop_line_by moment packets size = if packets == 0 then [] else entries.Drop moment packets size ∷ []

-- what an arrival drops, if it drops anything
abbrev pub drop_line : ℕ → List Timed → List Entry
drop_line moment ts = drop_line_by moment (length ts) (bytes ts)

-- each arrival, and then what it drops
abbrev pub arrival_lines : QueueSpec → List Opportunity → List Timed → List Timed → List Lines
arrival_lines q opps kept [] = []
arrival_lines q opps kept (t ∷ ts) =
    (t.moment, entries.Arrival t.moment t.packet.size ∷ drop_line t.moment (drop_with q opps kept t))
    ∷ arrival_lines q opps (keep_with q opps kept t) ts

-- the two by moment, opportunities first at equal moments
abbrev pub merged : List Lines → List Lines → List Lines
merged opps [] = opps
merged opps (a ∷ arrivals) = filter (λ (o : Lines). nat_le o.0 a.0) opps
    ++ a ∷ merged (filter (λ (o : Lines). nat_lt a.0 o.0) opps) arrivals

abbrev pub entries_of : List Lines → List Entry
entries_of [] = []
entries_of (l ∷ ls) = l.1 ++ entries_of ls

abbrev pub link_log : QueueSpec → List Opportunity → List Timed → List Entry
link_log q opps arrivals = entries_of
    (merged (opportunity_lines (keep q opps arrivals) opps 0 opps) (arrival_lines q opps [] arrivals))
