use Rattle.std.proofs.Common.{◌≡◌, ◌≤◌, ◌∙◌, ◌∷◌, [], ap, subst, ℕ, List}
use Rattle.mm_base.specs.Counts.{one_more}
use Rattle.live_relay.specs.Clocks.{Reads}
use Rattle.live_relay.specs.MemClocks.{MemClockState, answer_at, latest_of, mem_clock_view}
use Rattle.live_relay.proofs.ClockLemmas.{mem_falls_not, mem_reads}
use Rattle.live_relay.proofs.mem_clock.MemClockClock.now.Goals as goal

pub returns-clause-never_falls : goal.returns-clause-never_falls
returns-clause-never_falls c =
    let s : MemClockState = record { moments = c.self.inside.moments.items; calls = c.self.inside.calls; ends = c.self.inside.ends } in
    subst (λ (t : MemClockState). latest_of t.moments t.calls ≤ c.answer_of-moment.result) c.self.view_is
    (mem_falls_not s c.answer_of-moment.result c.self.invariant.1 c.self.invariant.0
    (c.answer_of-moment.ensures ∙ ap (λ (l : List ℕ). answer_at l c.self.inside.calls) c.as_slice.ensures.value))

pub returns-clause-told : goal.returns-clause-told
returns-clause-told c =
    let s : MemClockState = record { moments = c.self.inside.moments.items; calls = c.self.inside.calls; ends = c.self.inside.ends } in
    let n = c.saturating_add-self-inside.result in
    let counted : n ≡ one_more c.self.inside.calls = c.saturating_add-self-inside.ensures in
    subst (λ (t : MemClockState). Reads (c.answer_of-moment.result ∷ []) (mem_clock_view t).moments
    (mem_clock_view (record { moments = c.self.inside.moments.items; calls = n; ends = c.self.inside.ends })).moments) c.self.view_is
    (mem_reads s c.answer_of-moment.result n
    (c.answer_of-moment.ensures ∙ ap (λ (l : List ℕ). answer_at l c.self.inside.calls) c.as_slice.ensures.value)
    counted)
