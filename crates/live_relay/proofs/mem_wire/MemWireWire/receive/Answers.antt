use Rattle.std.proofs.Common.{◌∙◌, ap, arith, length}
use Rattle.std.proofs.lemmas.List.{length-append}
use Rattle.live_relay.specs.MemWires.{MemWireState}
use Rattle.live_relay.specs.Wires.{WireTold}
use Rattle.live_relay.specs.declared.received.Received.{Received}
use Rattle.live_relay.proofs.mem_wire.MemWireWire.receive.Goals as goal

pub returns-clause-asked : goal.returns-clause-asked
returns-clause-asked c =
    let noted = ap (λ (s : MemWireState). length s.told.received) (c.self-2.view_is ∙ c.in_ok-note.ensures.ok) in
    let called = ap (λ (w : WireTold). length w.received) c.call.ensures.told in
    omega (arith, length-append {A = Received})
