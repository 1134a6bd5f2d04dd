-- The moments that the generator makes, one by one.
use Rattle.std.proofs.Common.{◌≡◌, ℕ, suc, ◌+◌, ◌-◌, ◌%◌, ◌<◌, ◌++◌, List, [], ◌∷◌, map, IfOk, Result, Ok, Err, ap, sym}
use Rattle.std.proofs.Common.{subst, ◌∙◌, arith, append_assoc}
use Rattle.std.proofs.lemmas.List.{map-append, append-nil}
use Rattle.packet_record.specs.Draws.{next_draw}
use Rattle.trace_reader.specs.declared.opportunity.Opportunity.{Opportunity}
use Rattle.trace_reader.specs.Made.{moments_from}
use Rattle.trace_reader.specs.Traces.{TraceView}

abbrev pub moments : List Opportunity → List ℕ
moments opps = map (λ o. o.moment) opps

pub moments_more : (x x' moment n : ℕ) (opps opps' : List Opportunity) (o : Opportunity) (all : List ℕ) → n < 100
    → moments opps ++ moments_from x moment (100 - n) ≡ all → x' ≡ next_draw x
    → o.moment ≡ moment + (1 + next_draw x % 3) → opps' ≡ opps ++ o ∷ []
    → moments opps' ++ moments_from x' o.moment (100 - (n + 1)) ≡ all
moments_more x x' moment n opps opps' o all lt before drawn at more =
    let e : 100 - n ≡ suc (100 - (n + 1)) = omega arith in
    let left = moments_from x' o.moment (100 - (n + 1)) in
    ap (λ (l : List Opportunity). moments l ++ left) more
    ∙ ap (λ (l : List ℕ). l ++ left) (map-append (λ (p : Opportunity). p.moment) opps (o ∷ []))
    ∙ append_assoc (moments opps) (o.moment ∷ []) left
    ∙ ap (λ (y : ℕ). moments opps ++ o.moment ∷ moments_from y o.moment (100 - (n + 1))) drawn
    ∙ ap (λ (m : ℕ). moments opps ++ m ∷ moments_from (next_draw x) m (100 - (n + 1))) at
    ∙ ap (λ (k : ℕ). moments opps ++ moments_from x moment k) (sym e)
    ∙ before

pub moments_end : (x moment n : ℕ) (opps : List Opportunity) (all : List ℕ) → n ≡ 100 → moments opps
    ++ moments_from x moment (100 - n) ≡ all → moments opps ≡ all
moments_end x moment n opps all end before =
    let e : 0 ≡ 100 - n = omega arith in
    sym (append-nil (moments opps)) ∙ ap (λ (k : ℕ). moments opps ++ moments_from x moment k) e ∙ before

-- what holds of the trace that was made, if one was
pub if_made : {E : Type 0} (P : TraceView → Type 0) (t : TraceView) (result : Result TraceView E)
    → IfOk result (λ s. s ≡ t) → P t → IfOk result P
if_made P t (Ok s) e p = subst P (sym e) p
if_made P t (Err fault) e p = tt
