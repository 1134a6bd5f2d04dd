use Rattle.std.proofs.Common.{Err, ap}
use Rattle.command_relay.specs.inside.Values.{relay_values}
use Rattle.command_relay.proofs.PassLemmas.{has_relayed, stops_opening, stops_relaying}
use Rattle.command_relay.proofs.passing.relay_job.Goals as goal

pub returns-in-Err-clause-stopped : goal.returns-in-Err-clause-stopped
returns-in-Err-clause-stopped g c =
    let e = c.in-Err.ensures in
    stops_opening (relay_values c.args.job.now) c.args.nest (g.C.Clock.view c.args.clock.now)
    (g.W.Wire.view c.args.wire.now) (g.W.Wire.view c.open.new.self) c.in-Err.error c.cause_of_wire.result e.told e.asked
    e.opened (λ is. e.failed_cause (ap Err is)) c.cause_of_wire.ensures

pub returns-in-Ok-clause-relayed : goal.returns-in-Ok-clause-relayed
returns-in-Ok-clause-relayed g c =
    let e = c.in_default.ensures in
    has_relayed (relay_values c.args.job.now) c.args.nest (g.C.Clock.view c.args.clock.now)
    (g.C.Clock.view c.relay.new.clock) (g.W.Wire.view c.args.wire.now) (g.W.Wire.view c.open.new.self)
    (g.W.Wire.view c.relay.new.wire) c.in-Ok.relayed e.told e.asked e.opened c.in-Ok.ensures.opened
    c.in-Ok.ensures.relayed

pub returns-in-Err-relay-clause-stopped : goal.returns-in-Err-relay-clause-stopped
returns-in-Err-relay-clause-stopped g c =
    let e = c.in_default.ensures in
    stops_relaying (relay_values c.args.job.now) c.args.nest (g.C.Clock.view c.args.clock.now)
    (g.C.Clock.view c.relay.new.clock) (g.W.Wire.view c.args.wire.now) (g.W.Wire.view c.open.new.self)
    (g.W.Wire.view c.relay.new.wire) c.in-Err-relay.error c.cause_of_relay.result e.told e.asked
    e.opened c.in-Err-relay.ensures.opened c.in-Err-relay.ensures.stopped e.counts.grows
    (λ is. c.in-Err-relay.ensures.failed_cause (ap Err is))
    c.cause_of_relay.ensures
