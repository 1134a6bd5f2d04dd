-- Opportunities of the same moment and bytes are the same.
use Rattle.std.proofs.Common.{◌≡◌, ℕ, ◌≤◌, ap, sym, subst, ◌∙◌}
use Rattle.std.proofs.Math.Bridge.{le_prop}
use Rattle.trace_reader.specs.declared.opportunity.Opportunity.{Opportunity}

abbrev made : (m n : ℕ) → 1 ≤ n → n ≤ 1000000 → Opportunity
made m n p q = record { moment = m; bytes = n; some = p; most = q }

pub same_opportunity : (o : Opportunity) (m n : ℕ) (p : 1 ≤ n) (q : n ≤ 1000000) → m ≡ o.moment → n ≡ o.bytes
    → made m n p q ≡ o
same_opportunity o m n p q e f =
    let at_bytes : (p' : 1 ≤ o.bytes) (q' : o.bytes ≤ 1000000) → made m o.bytes p' q' ≡ o = λ p' q'.
    ap (λ (x : 1 ≤ o.bytes). made m o.bytes x q') (le_prop p' o.some)
    ∙ ap (λ (x : o.bytes ≤ 1000000). made m o.bytes o.some x) (le_prop q' o.most)
    ∙ ap (λ (k : ℕ). made k o.bytes o.some o.most) e in
    let P : ℕ → Type 0 = λ k. (p' : 1 ≤ k) (q' : k ≤ 1000000) → made m k p' q' ≡ o in
    subst P (sym f) at_bytes p q
