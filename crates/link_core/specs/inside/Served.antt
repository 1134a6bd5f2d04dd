-- What an opportunity makes of the packets inside.
use Rattle.std.specs.Prelude.{◌≡◌, ◌+◌, List}
use Rattle.packet_record.specs.declared.packet.Timed.{Timed}
use Rattle.trace_reader.specs.declared.opportunity.Opportunity.{Opportunity}
use Rattle.link_core.specs.declared.buffer.Buffer.{Buffer}
use Rattle.link_core.specs.inside.State.{IsPart, inside_buffer}
use Rattle.link_core.specs.inside.Stream.{carried, rest, begun}

-- the packets whose last bytes it carries
abbrev pub served : Buffer → Opportunity → List Timed
served buffer o = carried (buffer.used + o.bytes) (inside_buffer buffer)

-- The packets that it doesn't carry stay inside. Of the first of these it may have carried some bytes.
pub record IsServed (o : Opportunity) (old new : Buffer) : Type 0 where
  pub part : IsPart new.packet new.used
  pub inside : inside_buffer new ≡ rest (old.used + o.bytes) (inside_buffer old)
  pub used : new.used ≡ begun (old.used + o.bytes) (inside_buffer old)
  pub queue : new.queue ≡ record old.queue { packets = new.queue.packets }
