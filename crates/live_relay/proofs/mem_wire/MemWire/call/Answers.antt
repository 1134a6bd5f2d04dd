use Rattle.std.proofs.Common.{Contains, Err, List, subst, ℕ}
use Rattle.mm_base.specs.declared.errors.EndError.TheVariants.{Failed}
use Rattle.live_relay.specs.MemWires.{IsWireCall, MemWireState}
use Rattle.live_relay.specs.views.MemWire.{wire_view}
use Rattle.live_relay.proofs.SendLemmas.{failed_call}
use Rattle.live_relay.proofs.mem_wire.MemWire.call.Goals as goal

pub returns-then-is_failing-clause-call : goal.returns-then-is_failing-clause-call
returns-then-is_failing-clause-call c =
    let s : MemWireState = wire_view c.self.inside in
    let n = c.is_failing.new.calls in
    let f = c.saturating_add-self-inside.result in
    let there = subst (λ (l : List ℕ). Contains l n) c.deref.ensures.value
    (c.is_failing.ensures.failing.0 c.if-is_failing.true) in
    subst (λ (t : MemWireState). IsWireCall {T = Unit {0}} t (record s { calls = n; faults = f }) (Err Failed))
    c.self.view_is (failed_call s n f c.is_failing.ensures.counted there c.saturating_add-self-inside.ensures)
