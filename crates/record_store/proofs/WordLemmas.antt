-- A text cut at its first such byte.
use Rattle.std.proofs.Common.{◌≡◌, ℕ, ◌+◌, ◌<◌, ◌++◌, ◌==◌, ◌&&◌, not, Bool, true, false, cond, List, [], ◌∷◌, length}
use Rattle.std.proofs.Common.{take, drop, get_or, Some, None, nat_lt, refl, ap, sym, subst, ◌∙◌, arith, length-append}
use Rattle.std.specs.List.{position, position_or_len, before_first, after_first, list_all}
use Rattle.std.proofs.lemmas.Bool.{ltb-true, lt-ltb}
use Rattle.std.proofs.lemmas.Bool.Decides.{nat_tests}
use Rattle.std.proofs.lemmas.List.Sums.{split_at_first, passes_at_first}
use Rattle.text_base.proofs.WordsLemmas.{place_is}

pub both : (a b : Bool) → (a && b) ≡ true → (a ≡ true) × (b ≡ true)
both true b e = (refl, e)
both false b e = cc

by_test : (b : Bool) (m n : ℕ) → cond b (Some m) None ≡ Some n → (b ≡ true) × (m ≡ n)
by_test true m n e = (refl, cc)
by_test false m n e = absurd cc

pub place_within : (test : ℕ → Bool) (xs : List ℕ) (n : ℕ) → position test xs ≡ Some n → n < length xs
place_within test xs n e =
    let t = by_test (nat_lt (position_or_len test xs) (length xs)) (position_or_len test xs) n e in
    subst (λ (i : ℕ). i < length xs) t.1 (ltb-true _ _ t.0)

-- what stands round the first such byte
pub cut_at_place : (c : ℕ) (xs : List ℕ) (n : ℕ) → position (λ byte. byte == c) xs ≡ Some n → xs ≡ take n xs
    ++ c ∷ drop (n + 1) xs
cut_at_place c xs n e =
    let at = place_is (λ (byte : ℕ). byte == c) xs n e in
    let within : position_or_len (λ (byte : ℕ). byte == c) xs < length xs = subst (λ (i : ℕ). i < length xs) at
    (place_within (λ (byte : ℕ). byte == c) xs n e) in
    let here : (get_or xs (position_or_len (λ (byte : ℕ). byte == c) xs) 0 == c) ≡ true =
    passes_at_first (λ (byte : ℕ). byte == c) xs 0 within in
    let same : get_or xs (position_or_len (λ (byte : ℕ). byte == c) xs) 0 ≡ c = grind (arith, nat_tests) in
    split_at_first (λ (byte : ℕ). byte == c) xs 0 within
    ∙ ap (λ (x : ℕ). before_first (λ (byte : ℕ). byte == c) xs ++ x ∷ after_first (λ (byte : ℕ). byte == c) xs) same
    ∙ ap (λ (i : ℕ). take i xs ++ c ∷ drop (i + 1) xs) (sym at)

-- a text that begins without such a byte, and then has one
pub first_such : (c : ℕ) (a b : List ℕ) → (c == c) ≡ true → list_all (λ byte. not (byte == c)) a ≡ true
    → position_or_len (λ byte. byte == c) (a ++ c ∷ b) ≡ length a
first_such c [] b is none = ap (λ t. cond (not t) (1 + position_or_len (λ (byte : ℕ). byte == c) b) 0) is
first_such c (x ∷ xs) b is none =
    let parts = both (not (x == c)) (list_all (λ byte. not (byte == c)) xs) none in
    let ih = first_such c xs b is parts.1 in
    let here : position_or_len (λ (byte : ℕ). byte == c) (x ∷ xs ++ c ∷ b) ≡ 1 + position_or_len
    (λ (byte : ℕ). byte == c) (xs ++ c ∷ b) =
    ap (λ t. cond t (1 + position_or_len (λ (byte : ℕ). byte == c) (xs ++ c ∷ b)) 0) parts.0 in
    omega arith

pub position_such : (c : ℕ) (a b : List ℕ) → (c == c) ≡ true → list_all (λ byte. not (byte == c)) a ≡ true
    → position (λ byte. byte == c) (a ++ c ∷ b) ≡ Some (length a)
position_such c a b is none =
    let first = first_such c a b is none in
    let inside : nat_lt (length a) (length (a ++ c ∷ b)) ≡ true = lt-ltb _ _ (omega (arith, length-append a (c ∷ b))) in
    ap (λ (n : ℕ). cond (nat_lt n (length (a ++ c ∷ b))) (Some n) None) first
    ∙ ap (λ t. cond t (Some (length a)) None) inside
