use Rattle.std.proofs.Common.{◌≡◌, ◌≤◌, ◌+◌, ◌∙◌, ℕ, inl, inr, ap, arith, length, subst, sym, refl}
use Rattle.std.proofs.Common.{List, rules}
use Rattle.std.proofs.lemmas.Result.{on_err_weaker}
use Rattle.mm_base.proofs.Then.{CountsFaults-none, CountsFaults-then}
use Rattle.live_relay.specs.declared.outcome.RelayResult.{RelayResult}
use Rattle.live_relay.specs.declared.side.Side.TheVariants.{Client, Server}
use Rattle.packet_record.specs.declared.packet.Row.{Row}
use Rattle.packet_record.specs.Orders.{AreWithin}
use Rattle.packet_record.specs.Rows.{Rises}
use Rattle.nest_spec.specs.Nests.{NestParts}
use Rattle.live_relay.specs.Due.{last_moment}
use Rattle.live_relay.specs.Relays.{IsRelayed}
use Rattle.live_relay.proofs.Replaying.{rows_rise, rows_within}
use Rattle.live_relay.specs.Stamped.{stamps_of}
use Rattle.live_relay.proofs.Coursing.{course_begins, course_ends, course_passes, course_stops, course_turned}
use Rattle.live_relay.proofs.Coursing.{course_over, course_wants, relayed_same, stopped_same, stops_first}
use Rattle.live_relay.proofs.Dues.{none_due}
use Rattle.live_relay.proofs.Results.{if_ok_two, on_err_any}
use Rattle.live_relay.proofs.Stamping.{few_refused, few_stamps, rows-long}
use Rattle.live_relay.proofs.relaying.relay.Goals as goal

pub returns-in_err-relay-clause-stopped : goal.returns-in_err-relay-clause-stopped
returns-in_err-relay-clause-stopped g c = on_err_any _ c.from_residual.result
    (stops_first c.args.nest c.args.turns (g.C.Clock.view c.args.clock.now) (g.W.Wire.view c.args.wire.now))

pub turns-init : goal.turns-init
turns-init g c =
    let current = c.in_ok-relay.ensures in
    let relay = c.in_ok-relay.relay in
    record {
      course = course_begins c.args.nest (g.C.Clock.view c.args.clock.now) (g.W.Wire.view c.args.wire.now) relay
          current (none_due c.args.nest Client relay.down current.down)
          (none_due c.args.nest Server relay.up current.up);
      same = refl;
      going = λ some. absurd (omega arith);
      opened = refl;
      counts = CountsFaults-none _ _ (g.W.Wire.view c.args.wire.now);
    }

pub returns-then-moment-horizon-clause-relayed : goal.returns-then-moment-horizon-clause-relayed
returns-then-moment-horizon-clause-relayed g c =
    let course = c.turns.invariant.course in
    let before = course.before in
    let never = c.now-moment.ensures.never_falls in
    let le : c.turns.last ≤ c.now-moment.result = omega arith in
    relayed_same c.end_at_horizon.result c.turns.nest c.args.nest c.args.turns
    (g.C.Clock.view c.args.clock.now) (g.C.Clock.view c.now-moment.new.self) (g.W.Wire.view c.args.wire.now)
    (g.W.Wire.view c.end_at_horizon.new.wire) c.turns.invariant.same
    (if_ok_two _ _ _ c.end_at_horizon.result c.end_at_horizon.ensures.ok c.end_at_horizon.ensures.result
    (λ (r : RelayResult) ends has. course_passes c.turns.nest c.turns._taken c.args.turns c.now-moment.result _ _
    (g.C.Clock.view c.now-moment.new.self) _ _ (g.W.Wire.view c.end_at_horizon.new.wire) c.turns.relay c.turns.last r
    course c.turns-test.true c.now-moment.ensures.latest c.now-moment.ensures.told
    (let late = c.if-moment-horizon.true in let is = c.horizon-horizon.ensures.value in
    let same = ap (λ (n : NestParts). n.horizon) c.turns.invariant.same in omega arith)
    (ends course.turns course.current (subst (λ n. n ≤ c.now-moment.result) course.last_is le))
    (has course.turns course.current)))

pub returns-then-moment-horizon-clause-stopped : goal.returns-then-moment-horizon-clause-stopped
returns-then-moment-horizon-clause-stopped g c =
    let course = c.turns.invariant.course in
    let before = course.before in
    let never = c.now-moment.ensures.never_falls in
    let le : c.turns.last ≤ c.now-moment.result = omega arith in
    stopped_same c.end_at_horizon.result c.turns.nest c.args.nest c.args.turns
    (g.C.Clock.view c.args.clock.now) (g.C.Clock.view c.now-moment.new.self) (g.W.Wire.view c.args.wire.now)
    (g.W.Wire.view c.end_at_horizon.new.wire) c.turns.invariant.same
    (on_err_weaker c.end_at_horizon.result
    (λ stops. let s = stops course.turns course.current (subst (λ n. n ≤ c.now-moment.result) course.last_is le) in
    course_stops c.turns.nest c.turns._taken c.args.turns c.now-moment.result _ _
    (g.C.Clock.view c.now-moment.new.self) _ _ (g.W.Wire.view c.end_at_horizon.new.wire) c.turns.relay c.turns.last
    course c.turns-test.true c.now-moment.ensures.latest c.now-moment.ensures.told s.stops (inl s.same))
    c.end_at_horizon.ensures.err)

pub end_at_horizon-requires : goal.end_at_horizon-requires
end_at_horizon-requires g c =
    let course = c.turns.invariant.course in
    let before = course.before in
    let never = c.now-moment.ensures.never_falls in
    let is = course.last_is in
    record { turns = course.turns; current = course.current; before = omega arith }

pub turn-requires-clause-stands : goal.turn-requires-clause-stands
turn-requires-clause-stands g c =
    let course = c.turns.invariant.course in
    let before = course.before in
    let never = c.now-moment.ensures.never_falls in
    let is = course.last_is in
    record { turns = course.turns; current = course.current; before = omega arith }

pub end_after_turns-requires : goal.end_after_turns-requires
end_after_turns-requires g c =
    let course = c.turns.invariant.course in
    let is = course.last_is in
    record { turns = course.turns; current = course.current; before = omega arith }

pub turn-requires-clause-few : goal.turn-requires-clause-few
turn-requires-clause-few g c =
    let course = c.turns.invariant.course in
    let count = course.count in
    let lt = c.turns-test.true in
    let most = c.requires.few in
    let stamps = few_stamps course.turns in
    let long = rows-long 1 (stamps_of course.turns) in
    let rows = ap (λ (l : List Row). length l) course.current.stamps.rows in
    let refused = few_refused course.turns in
    let refused_is = course.current.stamps.refused in
    (omega arith, omega arith)

pub returns-in_err-relay-2-clause-stopped : goal.returns-in_err-relay-2-clause-stopped
returns-in_err-relay-2-clause-stopped g c =
    let course = c.turns.invariant.course in
    let before = course.before in
    let never = c.now-moment.ensures.never_falls in
    let le : c.turns.last ≤ c.now-moment.result = omega arith in
    let within : c.now-moment.result ≤ c.turns.nest.horizon =
    let early = c.if-moment-horizon.false in let is = c.horizon-horizon.ensures.value in
    let same = ap (λ (n : NestParts). n.horizon) c.turns.invariant.same in omega arith in
    stopped_same c.from_residual-in_err-relay-2.result c.turns.nest c.args.nest c.args.turns
    (g.C.Clock.view c.args.clock.now) (g.C.Clock.view c.now-moment.new.self) (g.W.Wire.view c.args.wire.now)
    (g.W.Wire.view c.turn.new.wire) c.turns.invariant.same
    (on_err_any _ c.from_residual-in_err-relay-2.result
    (course_stops c.turns.nest c.turns._taken c.args.turns c.now-moment.result _ _
    (g.C.Clock.view c.now-moment.new.self) _ _ (g.W.Wire.view c.turn.new.wire) c.turns.relay c.turns.last
    course c.turns-test.true c.now-moment.ensures.latest c.now-moment.ensures.told
    (c.in_err-relay-2.ensures.err course.turns course.current (subst (λ n. n ≤ c.now-moment.result) course.last_is le))
    (inr within)))

pub turn-requires-clause-room : goal.turn-requires-clause-room
turn-requires-clause-room g c = search rules

pub turns-preserved : goal.turns-preserved
turns-preserved g c =
    let course = c.turns.invariant.course in
    let before = course.before in
    let never = c.now-moment.ensures.never_falls in
    let le : c.turns.last ≤ c.now-moment.result = omega arith in
    let within : c.now-moment.result ≤ c.turns.nest.horizon =
    let early = c.if-moment-horizon.false in let is = c.horizon-horizon.ensures.value in
    let same = ap (λ (n : NestParts). n.horizon) c.turns.invariant.same in omega arith in
    let next = course_turned c.turns.nest c.turns._taken c.now-moment.result _ _
    (g.C.Clock.view c.now-moment.new.self) _ _ (g.W.Wire.view c.turn.new.wire) c.turns.relay
    c.in_ok-relay-2.relay c.turns.last course c.now-moment.ensures.latest never c.now-moment.ensures.told within
    (c.in_ok-relay-2.ensures.ok course.turns course.current (subst (λ n. n ≤ c.now-moment.result) course.last_is le)) in
    record {
      course = next;
      same = c.turns.invariant.same;
      going = λ some. sym c.has_ended.ensures.ended ∙ c.if-has_ended.false;
      opened = c.turn.ensures.opened ∙ c.turns.invariant.opened;
      counts = CountsFaults-then c.turns.invariant.counts c.turn.ensures.counts;
    }

pub turn-requires-clause-within : goal.turn-requires-clause-within
turn-requires-clause-within g c =
    let early = c.if-moment-horizon.false in
    let is = c.horizon-horizon.ensures.value in
    let same = ap (λ (n : NestParts). n.horizon) c.turns.invariant.same in
    omega arith

pub end_by_user-requires-clause-stands : goal.end_by_user-requires-clause-stands
end_by_user-requires-clause-stands g c =
    let course = c.turns.invariant.course in
    let before = course.before in
    let never = c.now-moment.ensures.never_falls in
    let le : c.turns.last ≤ c.now-moment.result = omega arith in
    let within : c.now-moment.result ≤ c.turns.nest.horizon =
    let early = c.if-moment-horizon.false in let is = c.horizon-horizon.ensures.value in
    let same = ap (λ (n : NestParts). n.horizon) c.turns.invariant.same in omega arith in
    let next = course_turned c.turns.nest c.turns._taken c.now-moment.result _ _
    (g.C.Clock.view c.now-moment.new.self) _ _ (g.W.Wire.view c.turn.new.wire) c.turns.relay
    c.in_ok-relay-2.relay c.turns.last course c.now-moment.ensures.latest never c.now-moment.ensures.told within
    (c.in_ok-relay-2.ensures.ok course.turns course.current (subst (λ n. n ≤ c.now-moment.result) course.last_is le)) in
    let is = next.last_is in
    record { turns = next.turns; current = next.current; before = omega arith }

pub end_by_user-requires-clause-within : goal.end_by_user-requires-clause-within
end_by_user-requires-clause-within g c =
    let early = c.if-moment-horizon.false in
    let is = c.horizon-horizon.ensures.value in
    let same = ap (λ (n : NestParts). n.horizon) c.turns.invariant.same in
    omega arith

pub end_by_user-requires-clause-rises : goal.end_by_user-requires-clause-rises
end_by_user-requires-clause-rises g c =
    let course = c.turns.invariant.course in
    let before = course.before in
    let never = c.now-moment.ensures.never_falls in
    let le : c.turns.last ≤ c.now-moment.result = omega arith in
    let within : c.now-moment.result ≤ c.turns.nest.horizon =
    let early = c.if-moment-horizon.false in let is = c.horizon-horizon.ensures.value in
    let same = ap (λ (n : NestParts). n.horizon) c.turns.invariant.same in omega arith in
    let next = course_turned c.turns.nest c.turns._taken c.now-moment.result _ _
    (g.C.Clock.view c.now-moment.new.self) _ _ (g.W.Wire.view c.turn.new.wire) c.turns.relay
    c.in_ok-relay-2.relay c.turns.last course c.now-moment.ensures.latest never c.now-moment.ensures.told within
    (c.in_ok-relay-2.ensures.ok course.turns course.current (subst (λ n. n ≤ c.now-moment.result) course.last_is le)) in
    subst (Rises 0) (sym next.current.stamps.rows) (rows_rise _ next.turns next.rises)

pub end_by_user-requires-clause-enter : goal.end_by_user-requires-clause-enter
end_by_user-requires-clause-enter g c =
    let course = c.turns.invariant.course in
    let before = course.before in
    let never = c.now-moment.ensures.never_falls in
    let le : c.turns.last ≤ c.now-moment.result = omega arith in
    let within : c.now-moment.result ≤ c.turns.nest.horizon =
    let early = c.if-moment-horizon.false in let is = c.horizon-horizon.ensures.value in
    let same = ap (λ (n : NestParts). n.horizon) c.turns.invariant.same in omega arith in
    let next = course_turned c.turns.nest c.turns._taken c.now-moment.result _ _
    (g.C.Clock.view c.now-moment.new.self) _ _ (g.W.Wire.view c.turn.new.wire) c.turns.relay
    c.in_ok-relay-2.relay c.turns.last course c.now-moment.ensures.latest never c.now-moment.ensures.told within
    (c.in_ok-relay-2.ensures.ok course.turns course.current (subst (λ n. n ≤ c.now-moment.result) course.last_is le)) in
    subst (λ (n : ℕ). AreWithin n c.in_ok-relay-2.relay.stamps.rows.items) (sym next.last_is)
    (subst (AreWithin (last_moment next.turns)) (sym next.current.stamps.rows)
    (rows_within _ next.turns next.rises))

pub returns-in_err-end_by_user-clause-stopped : goal.returns-in_err-end_by_user-clause-stopped
returns-in_err-end_by_user-clause-stopped g c =
    let course = c.turns.invariant.course in
    let before = course.before in
    let never = c.now-moment.ensures.never_falls in
    let le : c.turns.last ≤ c.now-moment.result = omega arith in
    let within : c.now-moment.result ≤ c.turns.nest.horizon =
    let early = c.if-moment-horizon.false in let is = c.horizon-horizon.ensures.value in
    let same = ap (λ (n : NestParts). n.horizon) c.turns.invariant.same in omega arith in
    let next = course_turned c.turns.nest c.turns._taken c.now-moment.result _ _
    (g.C.Clock.view c.now-moment.new.self) _ _ (g.W.Wire.view c.turn.new.wire) c.turns.relay
    c.in_ok-relay-2.relay c.turns.last course c.now-moment.ensures.latest never c.now-moment.ensures.told within
    (c.in_ok-relay-2.ensures.ok course.turns course.current (subst (λ n. n ≤ c.now-moment.result) course.last_is le)) in
    let lt = c.turns-test.true in
    stopped_same c.from_residual-in_err-end_by_user.result c.turns.nest c.args.nest c.args.turns
    (g.C.Clock.view c.args.clock.now) (g.C.Clock.view c.now-moment.new.self) (g.W.Wire.view c.args.wire.now)
    (g.W.Wire.view c.turn.new.wire) c.turns.invariant.same
    (on_err_any _ c.from_residual-in_err-end_by_user.result
    (course_wants c.turns.nest (c.turns._taken + 1) c.args.turns _ _ _ _ c.in_ok-relay-2.relay c.now-moment.result next
    (omega arith) (omega arith)))

pub returns-then-has_ended-clause-relayed : goal.returns-then-has_ended-clause-relayed
returns-then-has_ended-clause-relayed g c =
    let course = c.turns.invariant.course in
    let before = course.before in
    let never = c.now-moment.ensures.never_falls in
    let le : c.turns.last ≤ c.now-moment.result = omega arith in
    let within : c.now-moment.result ≤ c.turns.nest.horizon =
    let early = c.if-moment-horizon.false in let is = c.horizon-horizon.ensures.value in
    let same = ap (λ (n : NestParts). n.horizon) c.turns.invariant.same in omega arith in
    let next = course_turned c.turns.nest c.turns._taken c.now-moment.result _ _
    (g.C.Clock.view c.now-moment.new.self) _ _ (g.W.Wire.view c.turn.new.wire) c.turns.relay
    c.in_ok-relay-2.relay c.turns.last course c.now-moment.ensures.latest never c.now-moment.ensures.told within
    (c.in_ok-relay-2.ensures.ok course.turns course.current (subst (λ n. n ≤ c.now-moment.result) course.last_is le)) in
    let lt = c.turns-test.true in
    subst (λ (n : NestParts). IsRelayed n c.args.turns (g.C.Clock.view c.args.clock.now)
    (g.C.Clock.view c.now-moment.new.self) (g.W.Wire.view c.args.wire.now) (g.W.Wire.view c.turn.new.wire)
    c.in_ok-end_by_user.field-0) c.turns.invariant.same
    (course_over c.turns.nest (c.turns._taken + 1) c.args.turns _ _ _ _ c.in_ok-relay-2.relay c.now-moment.result
    c.in_ok-end_by_user.field-0 next (omega arith) (omega arith)
    (sym c.has_ended.ensures.ended ∙ c.if-has_ended.true)
    (c.in_ok-end_by_user.ensures next.turns next.current))

pub returns-then-has_ended-clause-counts : goal.returns-then-has_ended-clause-counts
returns-then-has_ended-clause-counts g c = CountsFaults-then c.turns.invariant.counts c.turn.ensures.counts

pub returns-in_err-end_after_turns-clause-stopped : goal.returns-in_err-end_after_turns-clause-stopped
returns-in_err-end_after_turns-clause-stopped g c =
    let course = c.turns.invariant.course in
    let done = c.turns-test.false in
    let some = c.requires.some in
    stopped_same c.from_residual-in_err-end_after_turns.result c.turns.nest c.args.nest c.args.turns
    (g.C.Clock.view c.args.clock.now) (g.C.Clock.view c.turns.clock) (g.W.Wire.view c.args.wire.now)
    (g.W.Wire.view c.turns.wire) c.turns.invariant.same
    (on_err_any _ c.from_residual-in_err-end_after_turns.result
    (course_wants c.turns.nest c.turns._taken c.args.turns _ _ _ _ c.turns.relay c.turns.last course (omega arith)
    (omega arith)))

pub returns-clause-relayed : goal.returns-clause-relayed
returns-clause-relayed g c =
    let course = c.turns.invariant.course in
    let done = c.turns-test.false in
    let all : c.turns._taken ≡ c.args.turns = omega arith in
    subst (λ (n : NestParts). IsRelayed n c.args.turns (g.C.Clock.view c.args.clock.now)
    (g.C.Clock.view c.turns.clock) (g.W.Wire.view c.args.wire.now) (g.W.Wire.view c.turns.wire)
    c.in_ok-end_after_turns.field-0) c.turns.invariant.same
    (course_ends c.turns.nest c.turns._taken c.args.turns (g.C.Clock.view c.args.clock.now)
    (g.C.Clock.view c.turns.clock) (g.W.Wire.view c.args.wire.now) (g.W.Wire.view c.turns.wire) c.turns.relay
    c.turns.last c.in_ok-end_after_turns.field-0 course all c.requires.some
    (let some = c.requires.some in c.turns.invariant.going (omega arith))
    (c.in_ok-end_after_turns.ensures course.turns course.current))
