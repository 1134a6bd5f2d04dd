use Rattle.std.proofs.Common.{◌≡◌, ◌+◌, ◌*◌, ◌/◌, ◌<◌, ℕ, zero, suc, List, [], ◌∷◌, length, Some, refl, ap, sym}
use Rattle.std.proofs.Common.{subst, ◌∙◌, arith, IsPermutation, IsSorted}
use Rattle.std.specs.Ordering.{nat_cmp}
use Rattle.log_report.specs.declared.figures.Delays.{Delays}
use Rattle.log_report.specs.Ranks.{at_rank, delays_of, divided_up}
use Rattle.log_report.proofs.few_delays.rank_delays.Goals as goal

-- the three ranks
by_rank : (xs : List ℕ) (m p t : ℕ) → 0 < length xs → m ≡ at_rank xs ((length xs + 1) / 2)
    → p ≡ at_rank xs ((95 * length xs + 99) / 100) → t ≡ at_rank xs (length xs)
    → Some (record { median = m; p95 = p; most = t }) ≡ delays_of xs
by_rank [] m p t some em ep et = absurd (let h : 0 < 0 = some in omega arith)
by_rank (x ∷ xs) m p t some em ep et = cc

some_of : (n k : ℕ) → n ≡ k → (n ≡ 0 → ⊥) → 0 < k
some_of zero k e other = absurd (other refl)
some_of (suc n) k e other = omega arith

pub returns : goal.returns
returns c =
    let delays = c.args.delays.items in
    let count : c.len-count.result ≡ length delays = c.len-count.ensures ∙ c.args.delays.ok.0 in
    let other = c.if-count-eq0.false in
    let same = sym c.as_slice-sorted.ensures.value in
    let perm = subst (λ (l : List ℕ). IsPermutation delays l) same c.sort_unstable.ensures.permutation in
    let is = subst (λ (l : List ℕ). IsSorted nat_cmp l) same c.sort_unstable.ensures.sorted in
    by_rank delays c.delay_at.result c.delay_at-2.result c.delay_at-3.result (some_of c.len-count.result (length delays) count other)
    (c.delay_at.ensures delays perm is ∙ ap (λ (n : ℕ). at_rank delays ((n + 1) / 2)) count)
    (c.delay_at-2.ensures delays perm is ∙ ap (λ (n : ℕ). at_rank delays ((95 * n + 99) / 100)) count)
    (c.delay_at-3.ensures delays perm is ∙ ap (at_rank delays) count)
