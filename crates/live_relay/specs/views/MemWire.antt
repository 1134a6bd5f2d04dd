-- A wire in memory by its parts.
use Rattle.live_relay.specs.MemWires.{MemWireState}
use Rattle.live_relay.specs.declared.mem_wire.MemWire.TheInside.{Inside}

abbrev pub wire_view : Inside → MemWireState
wire_view w = record {
  answers = w.answers.items;
  opened = w.opened;
  told = record {
    sent = record { client = w.client.items; server = w.server.items };
    received = w.received.items;
  };
  fails = w.fails.items;
  calls = w.calls;
  faults = w.faults;
}
