-- Counts of opportunities, and how late they are.
use Rattle.std.proofs.Common.{ℕ, suc, ◌≤◌, ◌≡◌, inl, inr, Bool, List, [], ◌∷◌, length, ap, arith}
use Rattle.std.proofs.lemmas.Bool.{cases_lt}
use Rattle.trace_reader.specs.declared.opportunity.Opportunity.{Opportunity}
use Rattle.trace_reader.specs.Opps.{up_to, entries, enough, opps}
use Rattle.trace_reader.specs.Orders.{Each}
use Rattle.trace_reader.proofs.OrderLemmas.{length-up_to, up_to_in, up_to_out}
use Rattle.link_core.specs.Promises.{count_to}

pub count_to-le : (os : List Opportunity) (m : ℕ) → count_to os m ≤ length os
count_to-le os m = length-up_to m os

pub count_to-grows : (os : List Opportunity) (m n : ℕ) → m ≤ n → count_to os m ≤ count_to os n
count_to-grows [] m n le = omega arith
count_to-grows (o ∷ os) m n le =
    let ih = count_to-grows os m n le in
    elim (cases_lt m o.moment) [
      | inr here ↦
          let a : count_to (o ∷ os) m ≡ suc (count_to os m) = ap length (up_to_in m o os here) in
          let b : count_to (o ∷ os) n ≡ suc (count_to os n) = ap length (up_to_in n o os (omega arith)) in
          omega arith
      | inl later ↦
          let a : count_to (o ∷ os) m ≡ count_to os m = ap length (up_to_out m o os later) in
          elim (cases_lt n o.moment) [
            | inr here ↦ let b : count_to (o ∷ os) n ≡ suc (count_to os n) = ap length (up_to_in n o os here)
                in omega arith
            | inl past ↦ let b : count_to (o ∷ os) n ≡ count_to os n = ap length (up_to_out n o os past) in omega arith
          ]
    ]

up_to_early : (m : ℕ) (os : List Opportunity) → Each (λ o. o.moment ≤ m) (up_to m os)
up_to_early m [] = tt
up_to_early m (o ∷ os) =
    let ih = up_to_early m os in
    elim (cases_lt m o.moment) [
      | inr here ↦ let e : up_to m (o ∷ os) ≡ o ∷ up_to m os = up_to_in m o os here in rw e (here, ih)
      | inl later ↦ let e : up_to m (o ∷ os) ≡ up_to m os = up_to_out m o os later in rw e ih
    ]

-- none is after the horizon
pub opps_within : (trace : List Opportunity) (once : Bool) (h : ℕ) → Each (λ o. o.moment ≤ h) (opps trace once h)
unfolding opps
opps_within trace once h = up_to_early h (entries trace (enough trace once h))
