-- A merge that forgets what it gave, beside the whole merge.
use Rattle.std.specs.Prelude.{◌≡◌, ◌-◌, List, map, Option, Some, None, drop, set}
use Rattle.packet_record.specs.declared.item.Item.{Item}
use Rattle.packet_record.specs.declared.item.Item.TheVariants.{Packet, Mark, End, Broken}
use Rattle.packet_record.specs.declared.item.FlowEnd.TheVariants.{Open}
use Rattle.packet_record.specs.Streams.{stream}
use Rattle.mark_channel.specs.Ends.{End as ChannelEnd}
use Rattle.sender_merge.specs.declared.inlet.Inlet.{Inlet}
use Rattle.sender_merge.specs.declared.step.Head.{Head}
use Rattle.sender_merge.specs.declared.thin_merge.ThinMerge.{ThinMerge}
use Rattle.sender_merge.specs.Inflows.{Inflow, Merging, inflow, sender_at}
use Rattle.sender_merge.specs.Laws.{AllUpTo}
use Rattle.sender_merge.specs.Steps.{candidate}
use Rattle.sender_merge.specs.inside.Inlets.{AreAdded}
use Rattle.sender_merge.specs.inside.Standing.{Stands, waits}

-- the sender without the packets that were given
abbrev pub thin : Inflow → Inflow
thin s = inflow (stream (waits s) s.flow.bound s.flow.end) 0

-- the sender without the first packet that is kept
abbrev pub without_first : Inflow → Inflow
without_first s = inflow (stream (drop 1 s.flow.packets) s.flow.bound s.flow.end) s.passed

-- the senders once the candidate was given and forgotten
abbrev pub forgetting : Option Head → List Inflow → List Inflow
forgetting None senders = senders
forgetting (Some c) senders = set senders (c.sender - 1) (without_first (sender_at senders c.sender))

-- the senders once an item was given and forgotten
abbrev pub senders_left : List Inflow → Item → List Inflow
senders_left senders (Packet t) = forgetting (candidate senders) senders
senders_left senders (Mark bound) = senders
senders_left senders End = senders
senders_left senders Broken = senders

-- `core` is the merge `m` without the packets that were given
pub record IsThin (m : Merging) (core : ThinMerge) : Type 0 where
  pub senders : core.senders.items ≡ map thin m.senders
  pub bound : core.given.bound ≡ m.given.bound
  pub end : core.given.end ≡ m.given.end

-- `core` is the merge `m` without the packets that were given, and `m` has what was received
pub record Keeps (m : Merging) (inlets : List Inlet) (core : ThinMerge) : Type 0 where
  pub stands : Stands m
  pub added : AreAdded inlets m.senders
  pub thin : IsThin m core

-- `core` is the merge `m` without the packets that were given, and `m` goes on with what it may send
pub record MaySend (m : Merging) (core : ThinMerge) (to : ChannelEnd) : Type 0 where
  pub stands : Stands m
  pub thin : IsThin m core
  pub going : m.given.end ≡ Open
  pub alike : to.flow ≡ m.given
  pub within : AllUpTo to.horizon m.senders
