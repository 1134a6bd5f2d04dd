-- What the steps of a link want of its parts.
use Rattle.std.specs.Prelude.{◌≡◌, ℕ, ◌+◌, ◌*◌, ◌<◌, ◌≤◌, [], ◌∷◌, length, take, drop, vec_len, vec_capacity}
use Prim.Native.Nat.{min}
use Rattle.text_base.specs.declared.limits.TheConstants.{GREATEST_MOMENT}
use Rattle.packet_record.specs.declared.packet.Timed.{Timed}
use Rattle.packet_record.specs.Moments.{AreUpTo}
use Rattle.trace_reader.specs.Orders.{Each}
use Rattle.link_core.specs.declared.parts.Parts.{Parts}
use Rattle.link_core.specs.views.Span.{span_opps}
use Rattle.link_core.specs.inside.State.{inside_buffer}
use Rattle.link_core.specs.inside.Sound.{Gone, IsSound, all_come}

-- a link that has dealt with each of its arrivals so far
abbrev pub IsSettled : Parts → Type 0
IsSettled c = IsSound c × (c.arrived.coming ≡ []) × AreUpTo c.opportunities.horizon c.arrived.come

-- There is room to burn opportunities until `end` are burnt, and then to let one packet in, without an allocation.
pub record HasRoomTo (end : ℕ) (c : Parts) : Type 0 where
  pub queue : 1 ≤ c.buffer.queue.spare
  pub departures : length (inside_buffer c.buffer) + vec_len c.departed ≤ vec_capacity c.departed
  pub entries : end + length (inside_buffer c.buffer) + 2 ≤ c.log.spare + c.burnt

-- There is room for as many steps, each of which burns an opportunity or lets a packet in, without an allocation.
pub record HasRoomFor (steps : ℕ) (c : Parts) : Type 0 where
  pub queue : min steps (length c.arrived.coming) ≤ c.buffer.queue.spare
  pub departures : length (inside_buffer c.buffer) + vec_len c.departed + min steps (length c.arrived.coming)
      ≤ vec_capacity c.departed
  pub entries : length (inside_buffer c.buffer) + 3 * steps ≤ c.log.spare

-- no more room was used than `packets` arrivals and `lines` entries of the log take
pub record UsesRoom (packets lines : ℕ) (old new : Parts) : Type 0 where
  pub queue : old.buffer.queue.spare ≤ new.buffer.queue.spare + packets
  pub departures : length (inside_buffer new.buffer) + vec_len new.departed + vec_capacity old.departed
      ≤ length (inside_buffer old.buffer) + vec_len old.departed + vec_capacity new.departed + packets
  pub entries : old.log.spare + length (inside_buffer new.buffer)
      ≤ new.log.spare + length (inside_buffer old.buffer) + lines

-- the packet is the next to come, and the opportunities up to its moment are burnt, and no others
pub record CanEnter (gone : Gone) (t : Timed) (c : Parts) : Type 0 where
  pub next : c.arrived.coming ≡ t ∷ drop 1 c.arrived.coming
  pub short : t.moment ≤ GREATEST_MOMENT
  pub order : AreUpTo t.moment (all_come gone c)
  pub burnt : Each (λ o. o.moment ≤ t.moment) (take c.burnt (span_opps c.opportunities))
  pub later : Each (λ o. t.moment < o.moment) (drop c.burnt (span_opps c.opportunities))
