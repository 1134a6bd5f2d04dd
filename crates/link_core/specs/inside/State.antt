-- What the parts of a link hold, after these arrivals and opportunities, the latest first.
use Rattle.std.specs.Prelude.{◌≡◌, ℕ, ◌<◌, Bool, List, [], ◌∷◌, Option, Some, None, map}
use Rattle.packet_record.specs.declared.packet.Timed.{Timed}
use Rattle.packet_queue.specs.declared.spec.QueueSpec.{QueueSpec}
use Rattle.shell_log.specs.declared.entry.Entry.{Entry}
use Rattle.shell_log.specs.declared.entry.Entry.TheVariants as entries
use Rattle.trace_reader.specs.declared.opportunity.Opportunity.{Opportunity}
use Rattle.link_core.specs.declared.buffer.Buffer.{Buffer}
use Rattle.link_core.specs.inside.Stream.{carried, rest, begun}
use Rattle.link_core.specs.inside.Orders.{Falling, AreFalling}
use Rattle.link_core.specs.Links.{departure_line}
use Rattle.link_core.specs.inside.Written.{written}
use Rattle.link_core.specs.inside.Back.{sent, keep, departures, losses, log_of}

-- the packet in transit, if there is one, before those in the queue
abbrev pub pending : Option Timed → List Timed → List Timed
pending None queue = queue
pending (Some t) queue = t ∷ queue

abbrev pub inside_buffer : Buffer → List Timed
inside_buffer buffer = pending buffer.packet buffer.queue.packets

-- some bytes of the packet in transit have gone, and not all
abbrev pub IsPart : Option Timed → ℕ → Type 0
IsPart None used = used ≡ 0
IsPart (Some t) used = (0 < used) × (used < t.packet.size)

-- where the bytes of the first packet that have gone are all that may go
abbrev pub IsIdle : ℕ → ℕ → List Timed → Type 0
IsIdle n used inside = (carried n inside ≡ []) × (rest n inside ≡ inside) × (begun n inside ≡ used)

-- the lines of an opportunity that ends these packets
abbrev pub served_lines : Opportunity → List Timed → List Entry
served_lines o ts = entries.Opportunity o.moment o.bytes ∷ map (departure_line o.moment) ts

pub record Tied (q : QueueSpec) (opps : List Opportunity) (arrivals : List Timed) (inside : List Timed) (used : ℕ)
    (departed lost : List Timed) (logged : Bool) (log : List Entry) : Type 0 where
  pub inside_is : rest (sent (keep q opps arrivals) opps) (keep q opps arrivals) ≡ inside
  pub used_is : begun (sent (keep q opps arrivals) opps) (keep q opps arrivals) ≡ used
  pub departed_is : departures (keep q opps arrivals) opps ≡ departed
  pub lost_is : losses q opps arrivals ≡ lost
  pub log_is : written logged (log_of q opps arrivals) ≡ log
  pub arrivals_fall : Falling arrivals
  pub opps_fall : AreFalling opps
