-- How many opportunities come up to a moment.
use Rattle.std.proofs.Common.{◌≡◌, ℕ, zero, suc, ◌<◌, ◌≤◌, List, [], ◌∷◌, length, take, drop, Some, slice_get}
use Rattle.std.proofs.Common.{arith, refl, ap, sym, subst, inl, inr}
use Rattle.std.proofs.lemmas.Bool.{cases_lt, le-leb, lt-leb}
use Rattle.trace_reader.specs.declared.opportunity.Opportunity.{Opportunity}
use Rattle.trace_reader.specs.Orders.{Each, AreRising}
use Rattle.trace_reader.specs.Opps.{up_to}
use Rattle.link_core.proofs.SentLemmas.{each_map}

up_to_in : (m : ℕ) (o : Opportunity) (opps : List Opportunity) → o.moment ≤ m → up_to m (o ∷ opps) ≡ o ∷ up_to m opps
up_to_in m o opps le = rw (le-leb o.moment m le)

up_to_none : (m : ℕ) (opps : List Opportunity) → Each (λ o. m < o.moment) opps → up_to m opps ≡ []
up_to_none m [] a = refl
up_to_none m (o ∷ opps) a = rw (lt-leb o.moment m a.0) (up_to_none m opps a.1)

all_late : (m : ℕ) (o : Opportunity) (opps : List Opportunity) → m < o.moment → AreRising (o ∷ opps)
    → Each (λ p. m < p.moment) (o ∷ opps)
all_late m o opps lt r = (lt, each_map (λ p. o.moment ≤ p.moment) (λ p. m < p.moment) opps (λ p le. omega arith) r.0)

pub counted : (m : ℕ) (opps : List Opportunity) → AreRising opps
    → Each (λ o. o.moment ≤ m) (take (length (up_to m opps)) opps)
    × Each (λ o. m < o.moment) (drop (length (up_to m opps)) opps)
counted m [] r = (tt, tt)
counted m (o ∷ opps) r = elim (cases_lt m o.moment) [
  | inr le ↦
      let ih = counted m opps r.1 in
      let e : length (up_to m (o ∷ opps)) ≡ suc (length (up_to m opps)) = ap length (up_to_in m o opps le) in
      rw e ((le, ih.0), ih.1)
  | inl lt ↦
      let late : Each (λ p. m < p.moment) (o ∷ opps) = all_late m o opps lt r in
      let e : length (up_to m (o ∷ opps)) ≡ 0 = ap length (up_to_none m (o ∷ opps) late) in
      rw e (tt, late)
]

-- those that are all up to the moment are no more
pub counted_start : (m b : ℕ) (opps : List Opportunity) → b ≤ length opps → Each (λ o. o.moment ≤ m) (take b opps)
    → b ≤ length (up_to m opps)
counted_start m zero opps le a = omega arith
counted_start m (suc b) [] le a = le
counted_start m (suc b) (o ∷ opps) le a =
    let low : b ≤ length opps = omega arith in
    let ih = counted_start m b opps low a.1 in
    let e : length (up_to m (o ∷ opps)) ≡ suc (length (up_to m opps)) = ap length (up_to_in m o opps a.0) in
    omega arith

-- no more are up to the moment where the next one is after it
pub counted_end : (m b : ℕ) (opps : List Opportunity) (o : Opportunity) → AreRising opps → Some o ≡ slice_get opps b
    → m < o.moment → length (up_to m opps) ≤ b
counted_end m b [] o r e lt = omega arith
counted_end m zero (p ∷ opps) o r e lt =
    let first : p ≡ o = cc in
    let late : m < p.moment = subst (λ (q : Opportunity). m < q.moment) (sym first) lt in
    let none : length (up_to m (p ∷ opps)) ≡ 0 = ap length (up_to_none m (p ∷ opps) (all_late m p opps late r)) in
    omega arith
counted_end m (suc b) (p ∷ opps) o r e lt =
    let ih = counted_end m b opps o r.1 e lt in
    elim (cases_lt m p.moment) [
      | inr le ↦ let more : length (up_to m (p ∷ opps)) ≡ suc (length (up_to m opps)) =
          ap length (up_to_in m p opps le) in omega arith
      | inl late ↦ let none : length (up_to m (p ∷ opps)) ≡ 0 =
          ap length (up_to_none m (p ∷ opps) (all_late m p opps late r)) in omega arith
    ]
