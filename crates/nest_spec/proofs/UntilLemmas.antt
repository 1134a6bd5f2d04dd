-- A nest with an earlier horizon has no more opportunities.
use Rattle.std.proofs.Common.{◌≡◌, ◌≤◌, ◌<◌, ◌+◌, ◌*◌, ◌/◌, ◌-◌, ℕ, zero, suc, Bool, true, false, List, [], ◌∷◌, ◌++◌, ap, arith}
use Rattle.std.proofs.Common.{length, option_to_list, sym, ◌∙◌, refl, subst, inl, inr}
use Rattle.std.proofs.lemmas.Bool.{cases_lt, le-leb, lt-leb}
use Rattle.std.proofs.lemmas.List.{length-append}
use Rattle.std.proofs.lemmas.List.Elements.{filter-append}
use Rattle.std.proofs.lemmas.Nat.{le-div}
use Rattle.std.proofs.Math.Nat.{div-mul-le_self, mul-le-mul_right}
use Rattle.trace_reader.specs.declared.opportunity.Opportunity.{Opportunity}
use Rattle.trace_reader.specs.Opps.{enough, entries, entry, last_moment, opps, up_to}
use Rattle.trace_reader.proofs.OrderLemmas.{up_to_in, up_to_out, up_to-append}
use Rattle.nest_spec.specs.declared.shell.Shell.{Shell}
use Rattle.nest_spec.specs.declared.shell.Shell.TheVariants.{Delay, Loss, Link}
use Rattle.nest_spec.specs.declared.shell.LinkDirection.{LinkDirection}
use Rattle.nest_spec.specs.Nests.{IsNest, NestParts, until}
use Rattle.nest_spec.specs.Shells.{all_opportunities}

-- no more of a list come up to an earlier moment
up_to_fewer : (m n : ℕ) (xs : List Opportunity) → m ≤ n → length (up_to m xs) ≤ length (up_to n xs)
up_to_fewer m n [] le = omega arith
up_to_fewer m n (o ∷ xs) le = elim (cases_lt m o.moment) [
  | inl lt ↦ elim (cases_lt n o.moment) [
    | inl lt' ↦
        let a = ap (λ (l : List Opportunity). length l) (up_to_out m o xs lt) in
        let b = ap (λ (l : List Opportunity). length l) (up_to_out n o xs lt') in
        let rest = up_to_fewer m n xs le in
        omega arith
    | inr le' ↦
        let a = ap (λ (l : List Opportunity). length l) (up_to_out m o xs lt) in
        let b = ap (λ (l : List Opportunity). length l) (up_to_in n o xs le') in
        let rest = up_to_fewer m n xs le in
        omega arith
  ]
  | inr low ↦
      let a = ap (λ (l : List Opportunity). length l) (up_to_in m o xs low) in
      let b = ap (λ (l : List Opportunity). length l) (up_to_in n o xs (omega arith)) in
      let rest = up_to_fewer m n xs le in
      omega arith
]

-- nor of fewer entries
entries_fewer : (h : ℕ) (trace : List Opportunity) (k more n : ℕ) → n ≡ more + k
    → length (up_to h (entries trace k)) ≤ length (up_to h (entries trace n))
unfolding entries
entries_fewer h trace k zero n e =
    let same = ap (λ (i : ℕ). length (up_to h (entries trace i))) e in
    let none : zero + k ≡ k = omega arith in
    let at = ap (λ (i : ℕ). length (up_to h (entries trace i))) none in
    omega arith
entries_fewer h trace k (suc more) zero e = absurd (omega arith)
entries_fewer h trace k (suc more) (suc n) e =
    let rest = entries_fewer h trace k more n (omega arith) in
    let next = option_to_list (entry trace n) in
    let a = ap (λ (l : List Opportunity). length l) (up_to-append h (entries trace n) next) in
    let b = length-append (up_to h (entries trace n)) (up_to h next) in
    omega arith

div_fewer : (m n k : ℕ) → m ≤ n → m / k ≤ n / k
div_fewer m n zero le = omega arith
div_fewer m n (suc k) le = le-div (m / suc k) n (suc k) (omega arith)
    (let low : m / suc k * suc k ≤ m = div-mul-le_self m (suc k) in omega arith)

enough_fewer : (trace : List Opportunity) (once : Bool) (m n : ℕ) → m ≤ n → enough trace once m ≤ enough trace once n
enough_fewer trace true m n le = omega arith
enough_fewer trace false m n le =
    let q = div_fewer m n (last_moment trace) le in
    mul-le-mul_right (length trace) (omega arith)

opps_fewer : (trace : List Opportunity) (once : Bool) (m n : ℕ) → m ≤ n
    → length (opps trace once m) ≤ length (opps trace once n)
unfolding opps
opps_fewer trace once m n le =
    let e = enough_fewer trace once m n le in
    let a = up_to_fewer m n (entries trace (enough trace once m)) le in
    let b = entries_fewer n trace (enough trace once m) (enough trace once n - enough trace once m)
    (enough trace once n) (omega arith) in
    omega arith

all_fewer : (m n : ℕ) (shells : List (Shell LinkDirection)) → m ≤ n → all_opportunities m shells ≤ all_opportunities n shells
all_fewer m n [] le = omega arith
all_fewer m n (Delay ms ∷ shells) le = all_fewer m n shells le
all_fewer m n (Loss d rate ∷ shells) le = all_fewer m n shells le
all_fewer m n (Link once up down ∷ shells) le =
    let rest = all_fewer m n shells le in
    let ups = opps_fewer up.trace.opportunities once m n le in
    let downs = opps_fewer down.trace.opportunities once m n le in
    omega arith

-- it is a nest
pub is_until : (horizon : ℕ) (nest : NestParts) → IsNest nest → horizon ≤ nest.horizon → IsNest (until horizon nest)
is_until horizon nest is le =
    let fewer = all_fewer horizon nest.horizon nest.shells le in
    let low = is.horizon in
    let few = is.opportunities in
    record {
      some = is.some;
      few = is.few;
      shells = is.shells;
      horizon = omega arith;
      opportunities = omega arith;
    }
