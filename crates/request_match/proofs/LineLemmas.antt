-- Common fronts of lines, and lines up to their queries.
use Rattle.std.proofs.Common.{suc, zero, true, false, Bool, ◌≡◌, ◌∙◌, ◌⊎◌, inl, inr, ℕ, ◌+◌, ◌<◌, ◌≤◌, List, [], ◌∷◌}
use Rattle.std.proofs.Common.{◌++◌}
use Rattle.std.proofs.Common.{length-drop, length, take, drop, get_or, cond, refl, sym, ap, subst, arith}
use Rattle.std.specs.Prelude.{◌==◌, not}
use Rattle.std.specs.List.{position_or_len}
use Rattle.std.proofs.lemmas.Bool.{cases_lt}
use Rattle.std.proofs.lemmas.Bool.Decides.{Decides-eqb}
use Rattle.std.proofs.lemmas.List.{get_or-take, length-take-le, take-append-drop, take_all, drop-drop}
use Rattle.std.proofs.lemmas.List.Sums.{fails_before_first, passes_at_first, prefix_len-le-length}
use Rattle.request_match.specs.Match.{stripped, common}
use Rattle.request_match.proofs.MatchLemmas.{stripped_at, stripped_all}

-- a common front is no longer than either
pub common_fits : (a b : List ℕ) → (common a b ≤ length a) × (common a b ≤ length b)
common_fits [] b = (omega arith, omega arith)
common_fits (x ∷ a) [] = (omega arith, omega arith)
common_fits (x ∷ a) (y ∷ b) = by_test (x == y) (common_fits a b)
  where
    by_test : (t : Bool) → (common a b ≤ length a) × (common a b ≤ length b)
        → (cond t (1 + common a b) 0 ≤ length (x ∷ a)) × (cond t (1 + common a b) 0 ≤ length (y ∷ b))
    by_test true h = (omega arith, omega arith)
    by_test false h = (omega arith, omega arith)

-- its bytes are the same in both
pub common_taken : (a b : List ℕ) (k : ℕ) → k ≤ common a b → take k a ≡ take k b
common_taken a b zero h = refl
common_taken [] b (suc k) h = absurd (omega arith)
common_taken (x ∷ a) [] (suc k) h = absurd (omega arith)
common_taken (x ∷ a) (y ∷ b) (suc k) h = by_test (x == y) refl h (λ few. common_taken a b k few)
  where
    by_test : (t : Bool) → (x == y) ≡ t → suc k ≤ cond t (1 + common a b) 0
        → (k ≤ common a b → take k a ≡ take k b) → x ∷ take k a ≡ y ∷ take k b
    by_test true e few later =
        let same : x ≡ y = (Decides-eqb x y).0 e in
        let rest : take k a ≡ take k b = later (omega (arith, few)) in
        λ i. same i ∷ rest i
    by_test false e few later = absurd (omega (arith, few))

-- and it is the longest such
pub common_least : (a b : List ℕ) (k : ℕ) → k ≤ length a → k ≤ length b → take k a ≡ take k b → k ≤ common a b
common_least a b zero p q e = omega arith
common_least [] b (suc k) p q e = absurd (omega (arith, p))
common_least (x ∷ a) [] (suc k) p q e = absurd (omega (arith, q))
common_least (x ∷ a) (y ∷ b) (suc k) p q e =
    let front : x ∷ take k a ≡ y ∷ take k b = e in
    let same : x ≡ y = cc front in
    let rest : take k a ≡ take k b = cc front in
    by_test (x == y) ((Decides-eqb x y).1 same) (common_least a b k (omega (arith, p)) (omega (arith, q)) rest)
  where
    by_test : (t : Bool) → t ≡ true → k ≤ common a b → suc k ≤ cond t (1 + common a b) 0
    by_test true e h = omega (arith, h)
    by_test false e h = absurd (cc e)

pub common_append : (x a b : List ℕ) → common (x ++ a) (x ++ b) ≡ length x + common a b
common_append [] a b = omega arith
common_append (c ∷ x) a b = by_test (c == c) ((Decides-eqb c c).1 refl) (common_append x a b)
  where
    by_test : (t : Bool) → t ≡ true → common (x ++ a) (x ++ b) ≡ length x + common a b
        → cond t (1 + common (x ++ a) (x ++ b)) 0 ≡ length (c ∷ x) + common a b
    by_test true e h = omega (arith, h)
    by_test false e h = absurd (cc e)

-- past a block that both have
pub common_past : (a b : List ℕ) (n : ℕ) → n ≤ length a → take n a ≡ take n b
    → common a b ≡ n + common (drop n a) (drop n b)
common_past a b n fits e =
    let left : a ≡ take n a ++ drop n a = sym (take-append-drop n a) in
    let right : b ≡ take n a ++ drop n b = sym (ap (λ l. l ++ drop n b) e ∙ take-append-drop n b) in
    ap (λ l. common l b) left ∙ ap (common (take n a ++ drop n a)) right
    ∙ common_append (take n a) (drop n a) (drop n b)
    ∙ ap (λ k. k + common (drop n a) (drop n b)) (length-take-le n a fits)

-- the same further on
pub block_past : (a b : List ℕ) (i n : ℕ) → i + n ≤ length a → take n (drop i a) ≡ take n (drop i b)
    → common (drop i a) (drop i b) ≡ n + common (drop (i + n) a) (drop (i + n) b)
block_past a b i n fits e =
    common_past (drop i a) (drop i b) n (omega (arith, length-drop i a)) e
    ∙ ap (λ l. n + common l (drop n (drop i b))) (drop-drop n i a)
    ∙ ap (λ l. n + common (drop (i + n) a) l) (drop-drop n i b)

-- bytes that differ end it
pub common_differs : (a b : List ℕ) (i : ℕ) → (get_or a i 0 ≡ get_or b i 0 → ⊥) → common a b ≤ i
common_differs a b i differ = elim (cases_lt i (common a b)) [
  | inl more ↦
      let same : take (i + 1) a ≡ take (i + 1) b = common_taken a b (i + 1) (omega (arith, more)) in
      absurd (differ (sym (get_or-take (i + 1) a i 0 (omega arith)) ∙ ap (λ l. get_or l i 0) same
      ∙ get_or-take (i + 1) b i 0 (omega arith)))
  | inr few ↦ few
]

-- ---- up to the query

abbrev is_mark : ℕ → Bool
is_mark b = b == 63

stripped_length : (line : List ℕ) → length (stripped line) ≡ position_or_len is_mark line
stripped_length line = length-take-le (position_or_len is_mark line) line
    (prefix_len-le-length (λ b. not (is_mark b)) line)

-- the bytes before the asked line's query stand there, and a query or the end follows
pub path_there : (line asked : List ℕ) (bare : ℕ) → bare ≡ length (stripped asked) → bare ≤ common line asked
    → (length line ≡ bare) ⊎ ((bare < length line) × (get_or line bare 0 ≡ 63)) → stripped line ≡ stripped asked
path_there line asked bare is few ends =
    let front : take bare line ≡ take bare asked = common_taken line asked bare few in
    let place : bare ≡ position_or_len is_mark asked = is ∙ stripped_length asked in
    let whole : take bare asked ≡ stripped asked = ap (λ n. take n asked) place in
    let other = λ (k : ℕ) (small : k < bare).
    ap is_mark (sym (get_or-take bare line k 0 small) ∙ ap (λ l. get_or l k 0) front ∙ get_or-take bare asked k 0 small)
    ∙ fails_before_first is_mark asked k 0 (subst (λ n. k < n) place small) in
    elim ends [
      | inl long ↦ sym (stripped_all line bare (sym long) other) ∙ sym (take_all bare line (omega (arith, long)))
          ∙ front
          ∙ whole
      | inr mark ↦ sym (stripped_at line bare mark.0 other mark.1) ∙ front ∙ whole
    ]

-- and nothing else has its stripped line
pub path_needed : (line asked : List ℕ) (bare : ℕ) → bare ≡ length (stripped asked)
    → stripped line ≡ stripped asked
    → (bare ≤ common line asked) × ((bare < length line) → get_or line bare 0 ≡ 63)
path_needed line asked bare is same =
    let mine : bare ≡ position_or_len is_mark line = is ∙ sym (ap length same) ∙ stripped_length line in
    let place : bare ≡ position_or_len is_mark asked = is ∙ stripped_length asked in
    let fits : bare ≤ length line = subst (λ n. n ≤ length line) (sym mine)
    (prefix_len-le-length (λ b. not (is_mark b)) line) in
    let fits_asked : bare ≤ length asked = subst (λ n. n ≤ length asked) (sym place)
    (prefix_len-le-length (λ b. not (is_mark b)) asked) in
    let front : take bare line ≡ take bare asked =
    ap (λ n. take n line) mine ∙ same ∙ ap (λ n. take n asked) (sym place) in (
      common_least line asked bare fits fits_asked front,
      λ inside. (Decides-eqb (get_or line bare 0) 63).0
          (subst (λ n. is_mark (get_or line n 0) ≡ true) (sym mine)
          (passes_at_first is_mark line 0 (subst (λ n. n < length line) mine inside))),
    )
