use Rattle.std.proofs.Common.{◌≡◌, ◌≤◌, false}
use Rattle.live_relay.specs.Wires.{CountsWireFaults}
use Rattle.live_relay.proofs.Coursing.{Course}
use Rattle.live_relay.proofs.relaying.relay.Given as goal

abbrev pub invariant-turns : goal.invariant-turns
invariant-turns g l = record {
  course : Course l.nest l._taken (g.C.Clock.view l.fn.clock) (g.C.Clock.view l.clock) (g.W.Wire.view l.fn.wire)
      (g.W.Wire.view l.wire) l.relay l.last;
  same : l.nest ≡ l.fn.nest;
  going : 1 ≤ l._taken → (g.C.Clock.view l.clock).ended ≡ false;
  opened : (g.W.Wire.view l.wire).opened ≡ (g.W.Wire.view l.fn.wire).opened;
  counts : CountsWireFaults (g.W.Wire.view l.fn.wire) (g.W.Wire.view l.wire);
}
