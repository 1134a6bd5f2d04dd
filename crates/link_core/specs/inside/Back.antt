-- What one direction of a link makes of its arrivals and opportunities, step by step: all lists of
-- opportunities and arrivals here have the latest first, which suits proofs. `Links` has the meaning, over lists in
-- order.
use Rattle.std.specs.Prelude.{ℕ, ◌+◌, ◌++◌, List, [], ◌∷◌, nat_le, nat_lt, filter, map}
use Prim.Native.Nat.{min}
use Rattle.packet_record.specs.declared.packet.Timed.{Timed}
use Rattle.packet_queue.specs.declared.spec.QueueSpec.{QueueSpec}
use Rattle.packet_record.specs.Packets.{moved_to}
use Rattle.packet_queue.specs.Queues.{enqueued, dropped}
use Rattle.shell_log.specs.declared.entry.Entry.{Entry}
use Rattle.shell_log.specs.declared.entry.Entry.TheVariants as entries
use Rattle.trace_reader.specs.declared.opportunity.Opportunity.{Opportunity}
use Rattle.trace_reader.specs.Opps.{up_to}
use Rattle.link_core.specs.Stream.{waiting, ahead}
use Rattle.link_core.specs.inside.Stream.{ending}
use Rattle.link_core.specs.Links.{below, Lines, departure_line, drop_line}

-- the bytes that these opportunities carried: each up to its own number, and only what arrived before it
abbrev pub sent : List Timed → List Opportunity → ℕ
sent kept [] = 0
sent kept (o ∷ earlier) = min (sent kept earlier + o.bytes) (below o.moment kept)

-- the kept packets after an arrival at which n bytes had gone
abbrev pub entered : QueueSpec → ℕ → List Timed → Timed → List Timed
entered q n kept t = ahead n kept ++ enqueued q (waiting n kept) t

-- the packets that the queue has kept after these arrivals, the latest first
abbrev pub keep : QueueSpec → List Opportunity → List Timed → List Timed
keep q opps [] = []
keep q opps (t ∷ earlier) = let kept = keep q opps earlier in entered q (sent kept (up_to t.moment opps)) kept t

-- what the arrival drops, where these packets are kept before it
abbrev pub dropped_at : QueueSpec → List Opportunity → List Timed → Timed → List Timed
dropped_at q opps kept t = dropped q (waiting (sent kept (up_to t.moment opps)) kept) t

abbrev pub losses : QueueSpec → List Opportunity → List Timed → List Timed
losses q opps [] = []
losses q opps (t ∷ earlier) = losses q opps earlier
    ++ map (moved_to t.moment) (dropped_at q opps (keep q opps earlier) t)

-- the packets that the first of these opportunities ends
abbrev pub ended : List Timed → Opportunity → List Opportunity → List Timed
ended kept o earlier = ending (sent kept earlier) (sent kept (o ∷ earlier)) kept

abbrev pub departures : List Timed → List Opportunity → List Timed
departures kept [] = []
departures kept (o ∷ earlier) = departures kept earlier ++ map (moved_to o.moment) (ended kept o earlier)

abbrev pub opportunity_lines : List Timed → List Opportunity → List Lines
opportunity_lines kept [] = []
opportunity_lines kept (o ∷ earlier) =
    (o.moment, entries.Opportunity o.moment o.bytes ∷ map (departure_line o.moment) (ended kept o earlier)) ∷
    opportunity_lines kept earlier

abbrev pub arrival_lines : QueueSpec → List Opportunity → List Timed → List Lines
arrival_lines q opps [] = []
arrival_lines q opps (t ∷ earlier) = (
  t.moment,
  entries.Arrival t.moment t.packet.size ∷ drop_line t.moment
      (dropped_at q opps (keep q opps earlier) t),
) ∷ arrival_lines q opps earlier

-- the two by moment, the latest first; at one moment the lines of opportunities were first
abbrev pub merged : List Lines → List Lines → List Lines
merged opps [] = opps
merged opps (a ∷ earlier) = filter (λ o. nat_lt a.0 o.0) opps ++ a ∷ merged (filter (λ o. nat_le o.0 a.0) opps) earlier

abbrev pub in_order : List Lines → List Entry
in_order [] = []
in_order (l ∷ earlier) = in_order earlier ++ l.1

abbrev pub log_of : QueueSpec → List Opportunity → List Timed → List Entry
log_of q opps arrivals = in_order
    (merged (opportunity_lines (keep q opps arrivals) opps) (arrival_lines q opps arrivals))
