-- What opening the wire leaves for the relay.
use Rattle.std.proofs.Common.{◌≡◌, ◌⊎◌, ◌↔◌, inl, inr, ℕ, ◌+◌, ◌<◌, ◌≤◌, List}
use Rattle.std.proofs.Common.{length, refl, subst, ◌∙◌, arith}
use Rattle.mm_base.specs.Counts.{Rose}
use Rattle.mm_base.specs.declared.errors.EndError.{EndError}
use Rattle.mm_base.specs.declared.errors.EndError.TheVariants as wires
use Rattle.nest_spec.specs.Nests.{NestParts}
use Rattle.live_relay.specs.Clocks.{ClockView}
use Rattle.live_relay.specs.Opened.{opened_at, refused_at}
use Rattle.live_relay.specs.Relays.{AreWithin, EndsBy, IfTold, IsRelayed, IsStopped}
use Rattle.live_relay.specs.Stamped.{Turn}
use Rattle.live_relay.specs.Wires.{WireTold, WireView}
use Rattle.live_relay.specs.declared.outcome.RelayEnd.{RelayEnd}
use Rattle.live_relay.specs.declared.outcome.RelayEnd.TheVariants.{Horizon, Turns, User}
use Rattle.live_relay.specs.declared.outcome.RelayError.{RelayError}
use Rattle.live_relay.specs.declared.outcome.RelayError.TheVariants as relays
use Rattle.live_relay.specs.declared.outcome.RelayResult.{RelayResult}
use Rattle.live_relay.proofs.Asking.{last_moment_within}
use Rattle.live_relay.proofs.Coursing.{stops_first}
use Rattle.command_ends.specs.declared.cause.Cause.{Cause}
use Rattle.command_ends.specs.declared.cause.Cause.TheVariants.{NetFault, OutOfMemory}
use Rattle.command_relay.specs.Jobs.{RelayJob}
use Rattle.command_relay.specs.Relaying.{HasRelayed, HasStopped, net}
use Rattle.command_relay.specs.inside.Relaying.{cause_of_relay, cause_of_wire}

-- what is told from an opened wire on is told from the wire before
told_from : (old mid new : WireView) (P : WireTold → WireTold → Type 0) → mid.told ≡ old.told → IfTold mid new P
    → IfTold old new P
told_from old mid new P same told start now s e = told start now (same ∙ s) e

-- a relay over a wire that was opened
pub relayed_from : (nest : NestParts) (limit : ℕ) (old_clock new_clock : ClockView) (old mid new : WireView)
    (r : RelayResult) → mid.told ≡ old.told → mid.asked ≡ old.asked
    → IsRelayed nest limit old_clock new_clock mid new r → IsRelayed nest limit old_clock new_clock old new r
relayed_from nest limit old_clock new_clock old mid new r same asked is = record {
  turns = is.turns;
  within = is.within;
  ends = is.ends;
  latest = is.latest;
  ended = is.ended;
  moments = is.moments;
  rises = is.rises;
  asked = subst (λ n. new.asked ≡ n + length is.turns) asked is.asked;
  rows = is.rows;
  refused = is.refused;
  run = is.run;
  once = is.once;
  received = told_from old mid new _ same is.received;
  sent = told_from old mid new _ same is.sent;
}

pub stopped_from : (nest : NestParts) (limit : ℕ) (old_clock new_clock : ClockView) (old mid new : WireView)
    → mid.told ≡ old.told → mid.asked ≡ old.asked
    → IsStopped nest limit old_clock new_clock mid new → IsStopped nest limit old_clock new_clock old new
stopped_from nest limit old_clock new_clock old mid new same asked is = record {
  turns = is.turns;
  few = is.few;
  within = is.within;
  asked = subst (λ n. new.asked ≡ n + length is.turns) asked is.asked;
  moments = is.moments;
  received = told_from old mid new _ same is.received;
  sent = told_from old mid new _ same is.sent;
}

-- the end is the horizon's exactly where the last moment is above it
end_exactly : (end : RelayEnd) (limit h last : ℕ) (turns : List Turn) → AreWithin h turns
    → EndsBy end limit h turns last → (end ≡ Horizon) ↔ (h < last)
end_exactly Horizon limit h last turns within ends = (λ e. ends.1, λ lt. refl)
end_exactly Turns limit h last turns within ends =
    let low = last_moment_within h turns within in
    let at = ends.1 in
    (λ e. absurd (cc e), λ lt. absurd (omega arith))
end_exactly User limit h last turns within ends =
    let low = last_moment_within h turns within in
    let at = ends.2 in
    (λ e. absurd (cc e), λ lt. absurd (omega arith))

pub has_relayed : (job : RelayJob) (nest : NestParts) (old_clock new_clock : ClockView) (old mid new : WireView)
    (r : RelayResult) → mid.told ≡ old.told → mid.asked ≡ old.asked
    → mid.opened ≡ opened_at job.listen job.to old.opened → new.opened ≡ mid.opened
    → IsRelayed nest job.turns old_clock new_clock mid new r
    → HasRelayed job nest (net old_clock old) (net new_clock new) r
has_relayed job nest old_clock new_clock old mid new r same asked opened kept is = record {
  opened = kept ∙ opened;
  relayed = relayed_from nest job.turns old_clock new_clock old mid new r same asked is;
  end = subst (λ n. (r.end ≡ Horizon) ↔ (nest.horizon < n)) is.latest
      (end_exactly r.end job.turns nest.horizon r.last is.turns is.within is.ends);
}

-- the wire couldn't be opened
pub stops_opening : (job : RelayJob) (nest : NestParts) (clock : ClockView) (old new : WireView) (error : EndError)
    (cause : Cause) → new.told ≡ old.told → new.asked ≡ old.asked
    → new.opened ≡ refused_at job.listen job.to old.opened
    → (error ≡ wires.Failed → Rose old.faults new.faults) → cause ≡ cause_of_wire error
    → HasStopped job nest (net clock old) (net clock new) cause
stops_opening job nest clock old new error cause same asked refused rose is = record {
  opened = inr refused;
  stopped = stopped_from nest job.turns clock clock old new new same asked (stops_first nest job.turns clock new);
  why = by error rose is;
}
  where
    by : (e : EndError) → (e ≡ wires.Failed → Rose old.faults new.faults) → cause ≡ cause_of_wire e
        → ((cause ≡ NetFault) × Rose old.faults new.faults) ⊎ (cause ≡ OutOfMemory)
    by wires.Failed rose is = inl (is, rose refl)
    by wires.OutOfMemory rose is = inr is

-- the relay stopped
pub stops_relaying : (job : RelayJob) (nest : NestParts) (old_clock new_clock : ClockView) (old mid new : WireView)
    (error : RelayError) (cause : Cause) → mid.told ≡ old.told → mid.asked ≡ old.asked
    → mid.opened ≡ opened_at job.listen job.to old.opened → new.opened ≡ mid.opened
    → IsStopped nest job.turns old_clock new_clock mid new
    → old.faults ≤ mid.faults → (error ≡ relays.WireFault → Rose mid.faults new.faults) → cause ≡ cause_of_relay error
    → HasStopped job nest (net old_clock old) (net new_clock new) cause
stops_relaying job nest old_clock new_clock old mid new error cause same asked opened kept stopped more rose is =
    record {
      opened = inl (kept ∙ opened);
      stopped = stopped_from nest job.turns old_clock new_clock old mid new same asked stopped;
      why = by error rose is;
    }
  where
    later : Rose mid.faults new.faults → Rose old.faults new.faults
    later rise below = let lt = rise below in let low = more in omega arith

    by : (e : RelayError) → (e ≡ relays.WireFault → Rose mid.faults new.faults) → cause ≡ cause_of_relay e
        → ((cause ≡ NetFault) × Rose old.faults new.faults) ⊎ (cause ≡ OutOfMemory)
    by relays.WireFault rose is = inl (is, later (rose refl))
    by relays.OutOfMemory rose is = inr is
