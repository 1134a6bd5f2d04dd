use Rattle.std.proofs.Common.{◌∙◌, subst, sym, rules}
use Rattle.packet_record.specs.Rows.{AreApart}
use Rattle.live_relay.proofs.Results.{on_err_any}
use Rattle.live_relay.proofs.Stamping.{apart}
use Rattle.live_relay.proofs.Ending.{ends_past, stops_gathering, stops_ending, stops_past}
use Rattle.live_relay.proofs.Feeding.{knows_ended}
use Rattle.live_relay.proofs.relay_state.Relay.end_at_horizon.Goals as goal

pub returns-in_err-relay-clause-err : goal.returns-in_err-relay-clause-err
returns-in_err-relay-clause-err g c = on_err_any _ c.from_residual.result (λ turns current le.
    stops_ending c.args.nest.now turns c.args.last (g.W.Wire.view c.args.wire.now) c.args.self current le)

pub send_due-requires : goal.send_due-requires
send_due-requires g c =
    let s = c.requires in
    knows_ended c.args.nest.now s.turns c.args.last c.args.self c.in_ok-relay.relay s.current
    (c.in_ok-relay.ensures s.turns s.current) s.before

pub returns-in_err-send_due-clause-err : goal.returns-in_err-send_due-clause-err
returns-in_err-send_due-clause-err g c = on_err_any _ c.from_residual-in_err-send_due.result (λ turns current le.
    let e = c.in_err-send_due.ensures in
    stops_past c.args.nest.now turns c.args.last (g.W.Wire.view c.args.wire.now) (g.W.Wire.view c.send_due.new.wire)
    c.args.self c.in_ok-relay.relay current (c.in_ok-relay.ensures turns current) le e.settled.0 e.settled.1
    (e.err _ (c.in_ok-relay.ensures turns current).stamps.kept) e.asked)

pub returns-in_err-into_result-clause-err : goal.returns-in_err-into_result-clause-err
returns-in_err-into_result-clause-err g c = on_err_any _ c.from_residual-in_err-into_result.result
    (λ turns current le.
    let e = c.in_ok-send_due.ensures in
    stops_gathering c.args.nest.now turns c.args.last (g.W.Wire.view c.args.wire.now)
    (g.W.Wire.view c.send_due.new.wire) c.args.self c.in_ok-relay.relay current (c.in_ok-relay.ensures turns current) le
    e.settled.0 e.settled.1 (e.ok _ (c.in_ok-relay.ensures turns current).stamps.kept) e.asked)

pub returns-clause-ok : goal.returns-clause-ok
returns-clause-ok g c = λ turns current le.
    let e = c.in_ok-send_due.ensures in
    ends_past c.args.nest.now turns c.args.last (g.W.Wire.view c.args.wire.now) (g.W.Wire.view c.send_due.new.wire)
    c.args.self c.in_ok-relay.relay current (c.in_ok-relay.ensures turns current) le e.settled.0 e.settled.1
    (e.ok _ (c.in_ok-relay.ensures turns current).stamps.kept) e.asked

pub into_result-requires-clause-apart : goal.into_result-requires-clause-apart
into_result-requires-clause-apart g c =
    let s = c.requires in
    let ended = c.in_ok-relay.ensures s.turns s.current in
    subst AreApart (sym (c.in_ok-send_due.ensures.same.rows ∙ ended.stamps.rows)) (apart s.turns)

pub returns-clause-result : goal.returns-clause-result
returns-clause-result g c = search rules
