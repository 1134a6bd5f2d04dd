-- Laws of the opportunities that a trace gives up to a horizon.
use Rattle.std.proofs.Common.{◌≡◌, ℕ, ◌+◌, ◌-◌, ◌*◌, ◌/◌, ◌%◌, ◌<◌, ◌≤◌, Bool, true, false, List, length, take}
use Rattle.std.proofs.Common.{slice_get, refl, ap, sym, subst, ◌∙◌, inl, inr, arith}
use Prim.Native.Nat.{min}
use Rattle.std.proofs.lemmas.Bool.{cases_lt, lt-leb}
use Rattle.std.proofs.Math.Nat.{lt-mul-div-succ, div-mul-le_self, lt_of_mul-lt-mul_right, min-eq_left, min-eq_right}
use Rattle.trace_reader.specs.declared.opportunity.Opportunity.{Opportunity}
use Rattle.trace_reader.specs.Orders.{AreRising}
use Rattle.trace_reader.specs.Opps.{up_to, last_moment, entry, opportunity_at, entries, enough, opps}
use Rattle.trace_reader.specs.Traces.{TraceView, IsTrace}
use Rattle.trace_reader.proofs.ListLemmas.{slice_get-take}
use Rattle.trace_reader.proofs.OrderLemmas.{up_to_lower, up_to_higher, up_to_front, length-up_to, rising-up_to}
use Rattle.trace_reader.proofs.Laps.{laps, entries_laps, first_lap, laps_rising, laps_beyond, length-up_to-laps}
use Rattle.trace_reader.proofs.Laps.{length-entries, slice_get-entries}

-- played once, those of the list up to the horizon
pub opps_once : (trace : List Opportunity) (horizon : ℕ) → opps trace true horizon ≡ up_to horizon trace
unfolding opps
opps_once trace horizon =
    let e : length trace ≡ 1 * length trace = omega arith in
    ap (λ (n : ℕ). up_to horizon (entries trace n)) e ∙ ap (up_to horizon) (entries_laps trace 1)
    ∙ ap (up_to horizon) (first_lap trace)

-- else those of all laps that begin up to it
pub opps_laps : (trace : List Opportunity) (horizon : ℕ)
    → opps trace false horizon ≡ up_to horizon (laps trace (horizon / last_moment trace + 1))
unfolding opps
opps_laps trace horizon = ap (up_to horizon) (entries_laps trace (horizon / last_moment trace + 1))

-- their number, by whole laps and a search
pub length-opps : (trace : List Opportunity) (horizon : ℕ) → AreRising trace
    → length (opps trace false horizon) ≡ horizon / last_moment trace * length trace + length
    (up_to (horizon % last_moment trace) trace)
length-opps trace horizon r = ap length (opps_laps trace horizon) ∙ length-up_to-laps trace horizon r

pub opps_rising : (t : TraceView) (once : Bool) (horizon : ℕ) → IsTrace t
    → AreRising (opps t.opportunities once horizon)
opps_rising t true horizon is = subst AreRising (sym (opps_once t.opportunities horizon))
    (rising-up_to horizon t.opportunities is.rising)
opps_rising t false horizon is =
    let n = horizon / last_moment t.opportunities + 1 in
    subst AreRising (sym (opps_laps t.opportunities horizon))
    (rising-up_to horizon (laps t.opportunities n) (laps_rising t.opportunities n is.rising))

after_laps : (m last : ℕ) → 0 < last → m < (m / last + 1) * last
after_laps m last some = let h : m < last * (m / last + 1) = lt-mul-div-succ m some in omega arith

laps_more : (m horizon last : ℕ) → 0 < last → m ≤ horizon → m / last + 1 ≤ horizon / last + 1
laps_more m horizon last some le =
    let low : m / last * last ≤ m = div-mul-le_self m last in
    let high : horizon < last * (horizon / last + 1) = lt-mul-div-succ horizon some in
    let below : m / last * last < (horizon / last + 1) * last = omega arith in
    let fewer : m / last < horizon / last + 1 = lt_of_mul-lt-mul_right last below in omega arith

-- up to an earlier moment there are those of the earlier horizon
pub up_to-opps : (t : TraceView) (once : Bool) (m horizon : ℕ) → IsTrace t → m ≤ horizon
    → up_to m (opps t.opportunities once horizon) ≡ opps t.opportunities once m
up_to-opps t true m horizon is le =
    ap (up_to m) (opps_once t.opportunities horizon) ∙ up_to_lower m horizon t.opportunities le
    ∙ sym (opps_once t.opportunities m)
up_to-opps t false m horizon is le =
    let trace = t.opportunities in
    let last = last_moment trace in
    let k = m / last + 1 in
    let n = horizon / last + 1 in
    let more : k ≤ n = laps_more m horizon last is.last_some le in
    let e : n ≡ n - k + k = omega arith in
    let beyond : m < k * last = after_laps m last is.last_some in
    ap (up_to m) (opps_laps trace horizon)
    ∙ up_to_lower m horizon (laps trace n) le
    ∙ ap (λ (i : ℕ). up_to m (laps trace i)) e
    ∙ laps_beyond trace m k (n - k) beyond
    ∙ sym (opps_laps trace m)

-- and up to a later moment they all are
pub up_to-opps_later : (t : TraceView) (once : Bool) (m horizon : ℕ) → horizon ≤ m
    → up_to m (opps t.opportunities once horizon) ≡ opps t.opportunities once horizon
unfolding opps
up_to-opps_later t once m horizon le =
    up_to_higher m horizon (entries t.opportunities (enough t.opportunities once horizon)) le

pub up_to-opps_min : (t : TraceView) (once : Bool) (m horizon : ℕ) → IsTrace t
    → up_to m (opps t.opportunities once horizon) ≡ opps t.opportunities once (min m horizon)
up_to-opps_min t once m horizon is = elim (cases_lt m horizon) [
  | inl lt ↦ up_to-opps t once m horizon is (omega arith)
      ∙ ap (opps t.opportunities once) (sym (min-eq_left (omega arith)))
  | inr le ↦ up_to-opps_later t once m horizon le ∙ ap (opps t.opportunities once) (sym (min-eq_right le))
]

-- those that come up to a moment are the first ones
pub length-up_to-opps : (t : TraceView) (once : Bool) (m horizon : ℕ) → IsTrace t
    → length (up_to m (opps t.opportunities once horizon)) ≡ length (opps t.opportunities once (min m horizon))
length-up_to-opps t once m horizon is = ap length (up_to-opps_min t once m horizon is)

-- no fewer come up to a later horizon
pub length-opps_more : (t : TraceView) (once : Bool) (m horizon : ℕ) → IsTrace t → m ≤ horizon
    → length (opps t.opportunities once m) ≤ length (opps t.opportunities once horizon)
length-opps_more t once m horizon is le =
    let e : length (up_to m (opps t.opportunities once horizon)) ≡ length (opps t.opportunities once m) =
    ap length (up_to-opps t once m horizon is le) in
    let few : length (up_to m (opps t.opportunities once horizon)) ≤ length (opps t.opportunities once horizon) =
    length-up_to m (opps t.opportunities once horizon) in
    omega arith

pub entries_rising : (t : TraceView) (once : Bool) (horizon : ℕ) → IsTrace t
    → AreRising (entries t.opportunities (enough t.opportunities once horizon))
entries_rising t true horizon is =
    let e : length t.opportunities ≡ 1 * length t.opportunities = omega arith in
    subst AreRising (sym (ap (entries t.opportunities) e ∙ entries_laps t.opportunities 1))
    (laps_rising t.opportunities 1 is.rising)
entries_rising t false horizon is =
    let n = horizon / last_moment t.opportunities + 1 in
    subst AreRising (sym (entries_laps t.opportunities n)) (laps_rising t.opportunities n is.rising)

front_of_entries : (t : TraceView) (once : Bool) (horizon : ℕ) → IsTrace t
    → opps t.opportunities once horizon ≡ take (length (opps t.opportunities once horizon))
    (entries t.opportunities (enough t.opportunities once horizon))
unfolding opps
front_of_entries t once horizon is =
    up_to_front horizon (entries t.opportunities (enough t.opportunities once horizon))
    (entries_rising t once horizon is)

fewer_than_enough : (t : TraceView) (once : Bool) (horizon : ℕ) → IsTrace t
    → length (opps t.opportunities once horizon) ≤ enough t.opportunities once horizon
unfolding opps
fewer_than_enough t once horizon is =
    let few = length-up_to horizon (entries t.opportunities (enough t.opportunities once horizon)) in
    let all = length-entries t.opportunities (enough t.opportunities once horizon) is.some in
    omega arith

pub within : (trace : List Opportunity) (once : Bool) (horizon j : ℕ) → j < enough trace once horizon
    → opportunity_at trace once j ≡ entry trace j
within trace true horizon j lt = rw (lt-leb (length trace) j lt)
within trace false horizon j lt = refl

-- those up to the horizon are the first entries
pub slice_get-opps : (t : TraceView) (once : Bool) (horizon j : ℕ) → IsTrace t
    → j < length (opps t.opportunities once horizon)
    → slice_get (opps t.opportunities once horizon) j ≡ opportunity_at t.opportunities once j
slice_get-opps t once horizon j is lt =
    let all = entries t.opportunities (enough t.opportunities once horizon) in
    let front : opps t.opportunities once horizon ≡ take (length (opps t.opportunities once horizon)) all =
    front_of_entries t once horizon is in
    let few : length (opps t.opportunities once horizon) ≤ enough t.opportunities once horizon =
    fewer_than_enough t once horizon is in
    ap (λ (l : List Opportunity). slice_get l j) front
    ∙ slice_get-take all (length (opps t.opportunities once horizon)) j lt
    ∙ slice_get-entries t.opportunities (enough t.opportunities once horizon) j is.some (omega arith)
    ∙ sym (within t.opportunities once horizon j (omega arith))

-- each of them is the entry of its number
pub entry-opps : (t : TraceView) (once : Bool) (horizon j : ℕ) → IsTrace t
    → j < length (opps t.opportunities once horizon)
    → entry t.opportunities j ≡ slice_get (opps t.opportunities once horizon) j
entry-opps t once horizon j is lt =
    let few : length (opps t.opportunities once horizon) ≤ enough t.opportunities once horizon =
    fewer_than_enough t once horizon is in
    sym (slice_get-opps t once horizon j is lt ∙ within t.opportunities once horizon j (omega arith))
