use Rattle.std.proofs.Common.{◌≡◌, ◌∙◌, ℕ, List, Option, length, option_map, subst}
use Rattle.live_relay.specs.Wires.{Datagram, WireTold, datagram_in, receiving}
use Rattle.live_relay.proofs.Results.{on_err_any}
use Rattle.live_relay.proofs.Feeding.{knows_fed}
use Rattle.live_relay.proofs.Turning.{stops_passing, stops_receiving, stops_sending, turned}
use Rattle.live_relay.proofs.relay_state.Relay.turn.Goals as goal

-- a receive has the room that it is given
got_told : (old new : Option WireTold) (answer : Option Datagram) (before buf : List ℕ) → length before ≡ 1505
    → length buf ≡ length before → new ≡ option_map (receiving (length buf) answer) old
    → new ≡ option_map (receiving 1505 answer) old
got_told old new answer before buf room kept told =
    subst (λ n. new ≡ option_map (receiving n answer) old) (kept ∙ room) told

pub returns-in_err-got-clause-err : goal.returns-in_err-got-clause-err
returns-in_err-got-clause-err g c = on_err_any _ c.from_residual.result (λ turns current le.
    stops_receiving c.args.nest.now turns c.args.moment (g.W.Wire.view c.args.wire.now)
    (g.W.Wire.view c.receive.new.self) c.args.self current le c.in_err-got.ensures.told c.in_err-got.ensures.asked)

pub returns-in_err-relay-clause-err : goal.returns-in_err-relay-clause-err
returns-in_err-relay-clause-err g c = on_err_any _ c.from_residual-in_err-relay.result (λ turns current le.
    stops_passing c.args.nest.now turns c.args.moment (datagram_in c.receive.new.buf c.in_ok-got.got)
    (g.W.Wire.view c.args.wire.now) (g.W.Wire.view c.receive.new.self) c.args.self current le
    (got_told (g.W.Wire.view c.args.wire.now).told (g.W.Wire.view c.receive.new.self).told
    (datagram_in c.receive.new.buf c.in_ok-got.got) c.args.buf.now c.receive.new.buf c.requires.room
    c.receive.auto.buf c.in_ok-got.ensures.told) c.in_ok-got.ensures.asked)

pub send_due-requires : goal.send_due-requires
send_due-requires g c =
    let s = c.requires.stands in
    knows_fed c.args.nest.now s.turns _ c.args.moment c.args.self c.in_ok-relay.relay s.current
    (c.in_ok-relay.ensures s.turns s.current) s.before

pub returns-in_err-send_due-clause-err : goal.returns-in_err-send_due-clause-err
returns-in_err-send_due-clause-err g c = on_err_any _ c.from_residual-in_err-send_due.result (λ turns current le.
    let e = c.in_err-send_due.ensures in
    stops_sending c.args.nest.now turns c.args.moment (datagram_in c.receive.new.buf c.in_ok-got.got)
    (g.W.Wire.view c.args.wire.now) (g.W.Wire.view c.receive.new.self) (g.W.Wire.view c.send_due.new.wire) c.args.self
    c.in_ok-relay.relay current (c.in_ok-relay.ensures turns current) le c.requires.within e.settled.0 e.settled.1
    (got_told (g.W.Wire.view c.args.wire.now).told (g.W.Wire.view c.receive.new.self).told
    (datagram_in c.receive.new.buf c.in_ok-got.got) c.args.buf.now c.receive.new.buf c.requires.room
    c.receive.auto.buf c.in_ok-got.ensures.told)
    c.in_ok-got.ensures.asked (e.err _ (c.in_ok-relay.ensures turns current).stamps.kept) e.asked)

pub returns-clause-ok : goal.returns-clause-ok
returns-clause-ok g c = λ turns current le.
    let e = c.in_ok-send_due.ensures in
    turned c.args.nest.now turns c.args.moment (datagram_in c.receive.new.buf c.in_ok-got.got)
    (g.W.Wire.view c.args.wire.now) (g.W.Wire.view c.receive.new.self) (g.W.Wire.view c.send_due.new.wire) c.args.self
    c.in_ok-relay.relay c.send_due.new.self current (c.in_ok-relay.ensures turns current) le c.requires.within
    e.settled.0 e.settled.1 e.same e.sent.0 e.sent.1
    (got_told (g.W.Wire.view c.args.wire.now).told (g.W.Wire.view c.receive.new.self).told
    (datagram_in c.receive.new.buf c.in_ok-got.got) c.args.buf.now c.receive.new.buf c.requires.room
    c.receive.auto.buf c.in_ok-got.ensures.told)
    c.in_ok-got.ensures.asked (e.ok _ (c.in_ok-relay.ensures turns current).stamps.kept) e.asked
