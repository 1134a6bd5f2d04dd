-- The opportunities up to a horizon are up to the horizon.
use Rattle.std.proofs.Common.{◌≡◌, ℕ, zero, suc, ◌≤◌, Bool, cond, List, [], ◌∷◌, Option, Some, None, slice_get, IfSome}
use Rattle.std.proofs.Common.{arith, ap, sym, subst, inl, inr}
use Rattle.std.proofs.lemmas.Bool.{cases_lt, le-leb, lt-leb}
use Rattle.trace_reader.specs.declared.opportunity.Opportunity.{Opportunity}
use Rattle.trace_reader.specs.Orders.{Each}
use Rattle.trace_reader.specs.Opps.{up_to, entries, enough, opps}

pub up_to_within : (m : ℕ) (os : List Opportunity) → Each (λ o. o.moment ≤ m) (up_to m os)
up_to_within m [] = tt
up_to_within m (o ∷ os) =
    let P : List Opportunity → Type 0 = Each (λ o. o.moment ≤ m) in
    elim (cases_lt m o.moment) [
      | inl lt ↦ subst P (sym (ap (λ b. cond b (o ∷ up_to m os) (up_to m os)) (lt-leb o.moment m lt)))
          (up_to_within m os)
      | inr le ↦ subst P (sym (ap (λ b. cond b (o ∷ up_to m os) (up_to m os)) (le-leb o.moment m le)))
          (le, up_to_within m os)
    ]

pub opps_within : (trace : List Opportunity) (once : Bool) (horizon : ℕ)
    → Each (λ o. o.moment ≤ horizon) (opps trace once horizon)
unfolding opps
opps_within trace once horizon = up_to_within horizon (entries trace (enough trace once horizon))

pub each_at : (P : Opportunity → Type 0) (os : List Opportunity) (i : ℕ) (o : Opportunity) → Each P os
    → slice_get os i ≡ Some o → P o
each_at P [] i o a e = cc
each_at P (p ∷ os) zero o a e = let h : p ≡ o = cc in subst P h a.0
each_at P (p ∷ os) (suc i) o a e = each_at P os i o a.1 e

pub some_within : (trace : List Opportunity) (once : Bool) (horizon most j : ℕ) (found : Option Opportunity)
    → horizon ≤ most → found ≡ slice_get (opps trace once horizon) j
    → IfSome found (λ o. o.moment ≤ most)
some_within trace once horizon most j None le e = tt
some_within trace once horizon most j (Some o) le e =
    let within = each_at (λ p. p.moment ≤ horizon) (opps trace once horizon) j o (opps_within trace once horizon)
    (sym e) in omega arith
