-- The opportunities of one lap, and the lap of an opportunity.
use Rattle.std.proofs.Common.{◌≡◌, ℕ, ◌+◌, ◌-◌, ◌*◌, ◌/◌, ◌<◌, ◌≤◌, List, length, Option, Some, slice_get, IfSome, Fits}
use Rattle.std.proofs.Common.{w64, ap, sym, subst, ◌∙◌, arith}
use Rattle.std.proofs.Math.Nat.{mul-div_cancel, div-le_self, mul-le-mul_right, zero-div}
use Rattle.trace_reader.specs.declared.opportunity.Opportunity.{Opportunity}
use Rattle.trace_reader.specs.Opps.{last_moment, later, entry}
use Rattle.trace_reader.proofs.Laps.{entry_in_lap}
use Rattle.link_core.specs.inside.Laps.{IsLap}

pub first_lap : (trace : List Opportunity) → IsLap trace 0 0
first_lap trace =
    let none : 0 / length trace ≡ 0 = zero-div (length trace) in
    record { whole = rw none (omega arith); begins = rw none (omega arith) }

pub is_lap : (trace : List Opportunity) (number count last : ℕ) → 0 < length trace → count ≡ length trace
    → last ≡ last_moment trace
    → IsLap trace (number * count) (number * last)
is_lap trace number count last some e f =
    let same : number * count ≡ number * length trace = ap (λ (n : ℕ). number * n) e in
    let lap : number * count / length trace ≡ number = ap (λ (n : ℕ). n / length trace) same
    ∙ mul-div_cancel number some in
    record { whole = rw lap (sym same); begins = rw lap (ap (λ (n : ℕ). number * n) (sym f)) }

pub start_fits : (j count last : ℕ) → j < 16000000 → last ≤ 9999999999 → Fits w64 (j / count * last)
start_fits j count last lt most =
    let few : j / count ≤ j = div-le_self j count in
    let le : j / count * last ≤ 16000000 * last = mul-le-mul_right last (omega arith) in
    omega arith

-- opportunity number j, in its lap
pub entry_at : (trace : List Opportunity) (first start j : ℕ) (o : Opportunity) → IsLap trace first start → first ≤ j
    → j < first + length trace
    → slice_get trace (j - first) ≡ Some o → entry trace j ≡ Some (later start o)
entry_at trace first start j o lap low high here =
    let k = first / length trace in
    let i = j - first in
    let whole : k * length trace ≡ first = lap.whole in
    let place : j ≡ k * length trace + i = omega arith in
    let within : i < length trace = omega arith in
    ap (entry trace) place ∙ entry_in_lap trace k i o within here ∙ ap (λ (by : ℕ). Some (later by o)) lap.begins

pub moment_within : (found : Option Opportunity) (start : ℕ) (o : Opportunity) → found ≡ Some (later start o)
    → IfSome found (λ p. p.moment ≤ 3600000) → o.moment + start ≤ 3600000
moment_within found start o e w = let P : Option Opportunity → Type 0 = λ f. IfSome f (λ p. p.moment ≤ 3600000)
    in subst P e w
