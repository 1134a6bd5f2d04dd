-- The rows of a relay are those of a schedule.
use Rattle.std.proofs.Common.{◌≤◌, ◌+◌, ℕ, List, [], ◌∷◌, length, refl, subst, sym, arith}
use Rattle.packet_record.specs.Orders.{AreInOrder, AreWithin, IsSchedule}
use Rattle.packet_record.specs.Rows.{Rises}
use Rattle.packet_record.specs.declared.packet.Row.{Row}
use Rattle.nest_spec.specs.Nests.{NestParts}
use Rattle.live_relay.specs.Clocks.{ClockView}
use Rattle.live_relay.specs.Due.{last_moment}
use Rattle.live_relay.specs.Relays.{EndsBy, IsRelayed}
use Rattle.live_relay.specs.Stamped.{Stamp, Turn, rows_from, rows_of, stamps_of}
use Rattle.live_relay.specs.Wires.{WireView}
use Rattle.live_relay.specs.declared.outcome.RelayEnd.{RelayEnd}
use Rattle.live_relay.specs.declared.outcome.RelayEnd.TheVariants.{Horizon, Turns, User}
use Rattle.live_relay.specs.declared.outcome.RelayResult.{RelayResult}
use Rattle.live_relay.proofs.Asking.{last_moment_within}
use Rattle.live_relay.proofs.Replaying.{rows_rise, rows_within}
use Rattle.live_relay.proofs.Stamping.{few_stamps, rows-long}

-- numbered rows that never fall are in order
in_order : (id low : ℕ) (stamps : List Stamp) → Rises low (rows_from id stamps)
    → AreInOrder id low (rows_from id stamps)
in_order id low [] rise = tt
in_order id low (s ∷ stamps) rise = (refl, rise.0, in_order (id + 1) s.moment stamps rise.1)

within_later : (low high : ℕ) (rows : List Row) → low ≤ high → AreWithin low rows → AreWithin high rows
within_later low high [] le within = tt
within_later low high (row ∷ rows) le within =
    let first = within.0 in (omega arith, within_later low high rows le within.1)

-- a relay takes at most its number of turns
few_turns : (end : RelayEnd) (limit h last : ℕ) (turns : List Turn) → EndsBy end limit h turns last
    → length turns ≤ limit
few_turns Horizon limit h last turns ends = let fewer = ends.0 in omega arith
few_turns Turns limit h last turns ends = let all = ends.0 in omega arith
few_turns User limit h last turns ends = ends.1

few_rows : (limit : ℕ) (turns : List Turn) → limit ≤ 1000000 → length turns ≤ limit
    → length (rows_of turns) ≤ 1000000
few_rows limit turns few taken =
    let long = rows-long 1 (stamps_of turns) in
    let fewer = few_stamps turns in
    omega arith

pub relayed_schedule : (nest : NestParts) (limit : ℕ) (old_clock new_clock : ClockView) (old_wire new_wire : WireView)
    (r : RelayResult) → limit ≤ 1000000 → nest.horizon ≤ 3600000
    → IsRelayed nest limit old_clock new_clock old_wire new_wire r → IsSchedule r.rows
relayed_schedule nest limit old_clock new_clock old_wire new_wire r few small is =
    let low = last_moment_within nest.horizon is.turns is.within in
    let early : last_moment is.turns ≤ 9999999999 = omega arith in
    subst IsSchedule (sym is.rows) (record {
      few = few_rows limit is.turns few (few_turns r.end limit nest.horizon r.last is.turns is.ends);
      order = in_order 1 0 (stamps_of is.turns) (rows_rise old_clock.latest is.turns is.rises);
      within = within_later (last_moment is.turns) 9999999999 (rows_of is.turns) early
          (rows_within old_clock.latest is.turns is.rises);
    })
