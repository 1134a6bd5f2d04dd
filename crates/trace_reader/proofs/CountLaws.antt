-- The opportunities up to a horizon are exactly those whose numbers are below their count.
use Rattle.std.proofs.Common.{◌≡◌, ℕ, zero, suc, ◌+◌, ◌*◌, ◌/◌, ◌%◌, ◌<◌, ◌≤◌, ◌↔◌, Bool, true, false, cond, List, []}
use Rattle.std.proofs.Common.{◌∷◌, length, Option, Some, None, slice_get, nat_le, refl, ap, sym, subst, ◌∙◌, inl, inr}
use Rattle.std.proofs.Common.{arith}
use Rattle.std.proofs.lemmas.Bool.{cases_lt, le-leb}
use Rattle.std.proofs.Math.Nat.{lt-mul-div-succ, mul-le-mul_right, le-div_iff_mul-le}
use Rattle.std.specs.Option.{option_map}
use Rattle.trace_reader.specs.declared.opportunity.Opportunity.{Opportunity}
use Rattle.trace_reader.specs.Orders.{Each, AreRising}
use Rattle.trace_reader.specs.Opps.{up_to, last_moment, later, entry, opportunity_at, entries, enough, opps}
use Rattle.trace_reader.specs.Traces.{TraceView, IsTrace}
use Rattle.trace_reader.proofs.OrderLemmas.{up_to_in, up_to_out}
use Rattle.trace_reader.proofs.Laps.{slice_get-entries}
use Rattle.trace_reader.proofs.OppsLaws.{entries_rising, slice_get-opps}

each_slice_get : (P : Opportunity → Type 0) (opps : List Opportunity) (j : ℕ) (o : Opportunity) → Each P opps
    → slice_get opps j ≡ Some o → P o
each_slice_get P [] j o a e = cc
each_slice_get P (x ∷ xs) zero o a e = let same : x ≡ o = cc in subst P same a.0
each_slice_get P (x ∷ xs) (suc j) o a e = each_slice_get P xs j o a.1 e

-- a place of a rising list up to a moment is counted
pub counted_place : (m : ℕ) (opps : List Opportunity) (j : ℕ) (o : Opportunity) → AreRising opps
    → slice_get opps j ≡ Some o → o.moment ≤ m → j < length (up_to m opps)
counted_place m [] j o r e le = cc
counted_place m (x ∷ xs) zero o r e le =
    let same : x ≡ o = cc in
    let here : x.moment ≤ m = subst (λ (p : Opportunity). p.moment ≤ m) (sym same) le in
    let long : length (up_to m (x ∷ xs)) ≡ suc (length (up_to m xs)) = ap length (up_to_in m x xs here) in
    omega arith
counted_place m (x ∷ xs) (suc j) o r e le =
    let before : x.moment ≤ o.moment = each_slice_get (λ p. x.moment ≤ p.moment) xs j o r.0 e in
    let ih = counted_place m xs j o r.1 e le in
    let long : length (up_to m (x ∷ xs)) ≡ suc (length (up_to m xs)) = ap length (up_to_in m x xs (omega arith)) in
    omega arith

-- an entry is no earlier than the laps before it
lap_start : (trace : List Opportunity) (j : ℕ) (o : Opportunity) → entry trace j ≡ Some o
    → j / length trace * last_moment trace ≤ o.moment
lap_start trace j o e = moved (slice_get trace (j % length trace)) (j / length trace * last_moment trace) o e
  where
    moved : (found : Option Opportunity) (by : ℕ) (o : Opportunity) → option_map (later by) found ≡ Some o
        → by ≤ o.moment
    moved None by o e = cc
    moved (Some x) by o e =
        let same : later by x ≡ o = cc in
        let moment : x.moment + by ≡ o.moment = ap (λ (p : Opportunity). p.moment) same in
        omega arith

not_none : (b : Bool) (found : Option Opportunity) (o : Opportunity) → cond b None found ≡ Some o → (b ≡ false)
    × (found ≡ Some o)
not_none true found o e = cc
not_none false found o e = (refl, e)

near : (t : TraceView) (once : Bool) (horizon j : ℕ) (o : Opportunity) → IsTrace t
    → opportunity_at t.opportunities once j ≡ Some o → o.moment ≤ horizon
    → (j < enough t.opportunities once horizon) × (entry t.opportunities j ≡ Some o)
near t true horizon j o is e le =
    let parts = not_none (nat_le (length t.opportunities) j) (entry t.opportunities j) o e in
    elim (cases_lt j (length t.opportunities)) [
      | inl lt ↦ (lt, parts.1)
      | inr past ↦ let test : nat_le (length t.opportunities) j ≡ true = le-leb (length t.opportunities) j past
          in let no : true ≡ false = sym test ∙ parts.0 in cc
    ]
near t false horizon j o is e le =
    let last = last_moment t.opportunities in
    let n = length t.opportunities in
    let start : j / n * last ≤ o.moment = lap_start t.opportunities j o e in
    let beyond : horizon < last * (horizon / last + 1) = lt-mul-div-succ horizon is.last_some in
    elim (cases_lt j ((horizon / last + 1) * n)) [
      | inl lt ↦ (lt, e)
      | inr past ↦
          let laps : horizon / last + 1 ≤ j / n = (le-div_iff_mul-le is.some).1 past in
          let far : (horizon / last + 1) * last ≤ j / n * last = mul-le-mul_right last laps in
          absurd (omega arith)
    ]

in_entries : (t : TraceView) (once : Bool) (horizon j : ℕ) (o : Opportunity) → IsTrace t
    → opportunity_at t.opportunities once j ≡ Some o → o.moment ≤ horizon
    → j < length (opps t.opportunities once horizon)
unfolding opps
in_entries t once horizon j o is e le =
    let all = entries t.opportunities (enough t.opportunities once horizon) in
    let at = near t once horizon j o is e le in
    counted_place horizon all j o (entries_rising t once horizon is)
    (slice_get-entries t.opportunities (enough t.opportunities once horizon) j is.some at.0 ∙ at.1) le

all_up_to : (m : ℕ) (opps : List Opportunity) → Each (λ o. o.moment ≤ m) (up_to m opps)
all_up_to m [] = tt
all_up_to m (o ∷ opps) = elim (cases_lt m o.moment) [
  | inr le ↦ let ih = all_up_to m opps in rw (up_to_in m o opps le) (le, ih)
  | inl lt ↦ let ih = all_up_to m opps in rw (up_to_out m o opps lt) ih
]

opps_up_to : (t : TraceView) (once : Bool) (horizon : ℕ)
    → Each (λ o. o.moment ≤ horizon) (opps t.opportunities once horizon)
unfolding opps
opps_up_to t once horizon = all_up_to horizon (entries t.opportunities (enough t.opportunities once horizon))

-- Number j is up to the horizon exactly where j is below the count.
pub which_counted : (t : TraceView) (once : Bool) (horizon n : ℕ) → IsTrace t
    → n ≡ length (opps t.opportunities once horizon)
    → (j : ℕ) (o : Opportunity) → opportunity_at t.opportunities once j ≡ Some o → (j < n) ↔ (o.moment ≤ horizon)
which_counted t once horizon n is count j o e = (
  λ lt. each_slice_get (λ p. p.moment ≤ horizon) (opps t.opportunities once horizon) j o (opps_up_to t once horizon)
      (slice_get-opps t once horizon j is (omega arith) ∙ e),
  λ le. let in_it = in_entries t once horizon j o is e le in omega arith,
)
