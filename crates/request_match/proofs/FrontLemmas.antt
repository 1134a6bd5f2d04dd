-- How much three lines have in common with each other.
use Rattle.std.proofs.Common.{zero, suc, true, false, Bool, ◌≡◌, ◌∙◌, ℕ, ◌+◌, ◌<◌, ◌≤◌, List, [], ◌∷◌, length, drop}
use Rattle.std.proofs.Common.{cond, refl, sym, arith}
use Rattle.std.specs.Prelude.{◌==◌}
use Rattle.std.proofs.Math.Bool.{true≢false}
use Rattle.std.proofs.lemmas.Bool.Decides.{Decides-eqb}
use Rattle.request_match.specs.Match.{common}

-- ---- one byte of each line

module _ (x y z m n k : ℕ) where
  -- m of the first and second line's rest, n of the first and third, k of the second and third
  below_step : (m < n → k ≡ m) → cond (x == y) (1 + m) 0 < cond (x == z) (1 + n) 0
      → cond (y == z) (1 + k) 0 ≡ cond (x == y) (1 + m) 0
  below_step h p = go (x == y) (x == z) (y == z) refl refl refl p
    where
      go : (s t u : Bool) → (x == y) ≡ s → (x == z) ≡ t → (y == z) ≡ u → cond s (1 + m) 0 < cond t (1 + n) 0
          → cond u (1 + k) 0 ≡ cond s (1 + m) 0
      go true true true a b c p = (let e = h (omega (arith, p)) in omega (arith, e))
      go true true false a b c p =
          absurd (true≢false (sym ((Decides-eqb y z).1 (sym ((Decides-eqb x y).0 a) ∙ (Decides-eqb x z).0 b)) ∙ c))
      go true false u a b c p = absurd (omega (arith, p))
      go false true true a b c p =
          absurd (true≢false (sym ((Decides-eqb x y).1 ((Decides-eqb x z).0 b ∙ sym ((Decides-eqb y z).0 c))) ∙ a))
      go false true false a b c p = refl
      go false false u a b c p = absurd (omega (arith, p))

  same_step : (m ≡ n → n ≤ k) → cond (x == y) (1 + m) 0 ≡ cond (x == z) (1 + n) 0
      → cond (x == z) (1 + n) 0 ≤ cond (y == z) (1 + k) 0
  same_step h p = go (x == y) (x == z) (y == z) refl refl refl p
    where
      go : (s t u : Bool) → (x == y) ≡ s → (x == z) ≡ t → (y == z) ≡ u → cond s (1 + m) 0 ≡ cond t (1 + n) 0
          → cond t (1 + n) 0 ≤ cond u (1 + k) 0
      go true true true a b c p = (let e = h (omega (arith, p)) in omega (arith, e))
      go true true false a b c p =
          absurd (true≢false (sym ((Decides-eqb y z).1 (sym ((Decides-eqb x y).0 a) ∙ (Decides-eqb x z).0 b)) ∙ c))
      go true false u a b c p = omega arith
      go false true u a b c p = absurd (omega (arith, p))
      go false false u a b c p = omega arith

  above_step : (n < m → k ≡ n) → cond (x == z) (1 + n) 0 < cond (x == y) (1 + m) 0
      → cond (y == z) (1 + k) 0 ≡ cond (x == z) (1 + n) 0
  above_step h p = go (x == y) (x == z) (y == z) refl refl refl p
    where
      go : (s t u : Bool) → (x == y) ≡ s → (x == z) ≡ t → (y == z) ≡ u → cond t (1 + n) 0 < cond s (1 + m) 0
          → cond u (1 + k) 0 ≡ cond t (1 + n) 0
      go true true true a b c p = (let e = h (omega (arith, p)) in omega (arith, e))
      go true true false a b c p =
          absurd (true≢false (sym ((Decides-eqb y z).1 (sym ((Decides-eqb x y).0 a) ∙ (Decides-eqb x z).0 b)) ∙ c))
      go true false true a b c p =
          absurd (true≢false (sym ((Decides-eqb x z).1 ((Decides-eqb x y).0 a ∙ (Decides-eqb y z).0 c)) ∙ b))
      go true false false a b c p = refl
      go false t u a b c p = absurd (omega (arith, p))

-- ---- whole lines

-- the second and third line have in common what the first has with the one with which it has less in common
pub front_below : (a b q : List ℕ) → common a b < common a q → common b q ≡ common a b
front_below [] b q h = absurd (omega (arith, h))
front_below (x ∷ a) [] q h = refl
front_below (x ∷ a) (y ∷ b) [] h = absurd (omega (arith, h))
front_below (x ∷ a) (y ∷ b) (z ∷ q) h =
    below_step x y z (common a b) (common a q) (common b q) (front_below a b q) h

pub front_above : (a b q : List ℕ) → common a q < common a b → common b q ≡ common a q
front_above [] b q h = absurd (omega (arith, h))
front_above (x ∷ a) [] q h = absurd (omega (arith, h))
front_above (x ∷ a) (y ∷ b) [] h = refl
front_above (x ∷ a) (y ∷ b) (z ∷ q) h =
    above_step x y z (common a b) (common a q) (common b q) (front_above a b q) h

-- at least as much, where the first has as much in common with both
front_least : (a b q : List ℕ) → common a b ≡ common a q → common a q ≤ common b q
front_least [] b q h = omega arith
front_least (x ∷ a) [] [] h = omega arith
front_least (x ∷ a) [] (z ∷ q) h = omega (arith, h)
front_least (x ∷ a) (y ∷ b) [] h = omega arith
front_least (x ∷ a) (y ∷ b) (z ∷ q) h =
    same_step x y z (common a b) (common a q) (common b q) (front_least a b q) h

from_step : (t : Bool) (i m k : ℕ) → (i ≤ m → m ≡ i + k) → suc i ≤ cond t (1 + m) 0 → cond t (1 + m) 0 ≡ suc i + k
from_step true i m k h p = let e = h (omega (arith, p)) in omega (arith, e)
from_step false i m k h p = absurd (omega (arith, p))

-- what is in common goes on after a part of it
common_from : (i : ℕ) (b q : List ℕ) → i ≤ common b q → common b q ≡ i + common (drop i b) (drop i q)
common_from zero b q h = omega arith
common_from (suc i) [] q h = absurd (omega (arith, h))
common_from (suc i) (y ∷ b) [] h = absurd (omega (arith, h))
common_from (suc i) (y ∷ b) (z ∷ q) h =
    from_step (y == z) i (common b q) (common (drop i b) (drop i q)) (common_from i b q) h

pub front_same : (a b q : List ℕ) (n : ℕ) → n ≡ common a b → n ≡ common a q
    → common b q ≡ n + common (drop n b) (drop n q)
front_same a b q n e f = common_from n b q (let l = front_least a b q (sym e ∙ f) in omega (arith, l, f))

short_step : (t : Bool) (m n : ℕ) → m ≤ n → cond t (1 + m) 0 ≤ suc n
short_step true m n h = omega (arith, h)
short_step false m n h = omega arith

pub common_short : (a b : List ℕ) → common a b ≤ length a
common_short [] b = omega arith
common_short (x ∷ a) [] = omega arith
common_short (x ∷ a) (y ∷ b) = short_step (x == y) (common a b) (length a) (common_short a b)
