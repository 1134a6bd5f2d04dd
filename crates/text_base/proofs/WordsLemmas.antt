-- A text cut at its first byte that passes a test, and a line at its first space.
use Rattle.std.proofs.Common.{◌≡◌, ℕ, ◌+◌, ◌-◌, ◌<◌, ◌≤◌, ◌++◌, ◌==◌, ◌&&◌, not, Bool, true, false, cond, List, [], ◌∷◌}
use Rattle.std.proofs.Common.{length, take, drop, get_or, Some, None, nat_le, nat_lt, refl, ap, sym, ◌∙◌, arith}
use Rattle.std.specs.List.{position, position_or_len, before_first, after_first, list_all}
use Rattle.std.proofs.lemmas.List.{take_rest, take_all, drop_all}
use Rattle.std.proofs.lemmas.List.Sums.{split_at_first, passes_at_first}
use Rattle.std.proofs.lemmas.Bool.{leb-true}
use Rattle.std.proofs.lemmas.Bool.Decides.{nat_tests}
use Rattle.std.proofs.Math.Seq.{take-append_seam, drop-append-add}
use Rattle.text_base.specs.Words.{first_word, other_words}

by_test : (b : Bool) (m n : ℕ) → cond b (Some m) None ≡ Some n → (b ≡ true) × (m ≡ n)
by_test true m n e = (refl, cc)
by_test false m n e = absurd cc

no_test : (b : Bool) (m : ℕ) → cond b (Some m) None ≡ None → b ≡ false
no_test true m e = absurd cc
no_test false m e = refl

-- the first place that passes
pub place_is : (test : ℕ → Bool) (xs : List ℕ) (n : ℕ) → position test xs ≡ Some n → n ≡ position_or_len test xs
place_is test xs n e = sym (by_test _ _ n e).1

pub no_place : (test : ℕ → Bool) (xs : List ℕ) → position test xs ≡ None → length xs ≤ position_or_len test xs
no_place test xs e = let no : nat_lt (position_or_len test xs) (length xs) ≡ false = no_test _ _ e
    in grind (arith, nat_tests)

-- a text is cut at its first such byte
pub before_cut : (test : ℕ → Bool) (xs : List ℕ) (n : ℕ) → position test xs ≡ Some n → take n xs ≡ before_first test xs
before_cut test xs n e = ap (λ (i : ℕ). take i xs) (place_is test xs n e)

pub after_cut : (test : ℕ → Bool) (xs : List ℕ) (n : ℕ) → position test xs ≡ Some n
    → take (length xs - (n + 1)) (drop (n + 1) xs) ≡ after_first test xs
after_cut test xs n e = take_rest xs (n + 1) ∙ ap (λ (i : ℕ). drop (i + 1) xs) (place_is test xs n e)

pub before_none : (test : ℕ → Bool) (xs : List ℕ) → position test xs ≡ None → xs ≡ before_first test xs
before_none test xs e = sym (take_all (position_or_len test xs) xs (no_place test xs e))

pub after_none : (test : ℕ → Bool) (xs : List ℕ) → position test xs ≡ None
    → take (length xs - length xs) (drop (length xs) xs) ≡ after_first test xs
after_none test xs e =
    let past = no_place test xs e in
    take_rest xs (length xs) ∙ drop_all (length xs) xs (omega arith)
    ∙ sym (drop_all (position_or_len test xs + 1) xs (omega arith))

both : (a b : Bool) → (a && b) ≡ true → (a ≡ true) × (b ≡ true)
both true b e = (refl, e)
both false b e = cc

-- words that are parted by a space
first_space : (a b : List ℕ) → list_all (λ byte. not (byte == 32)) a ≡ true
    → position_or_len (λ byte. byte == 32) (a ++ 32 ∷ b) ≡ length a
first_space [] b none = refl
first_space (x ∷ xs) b none =
    let parts = both (not (x == 32)) (list_all (λ byte. not (byte == 32)) xs) none in
    let ih = first_space xs b parts.1 in
    let here : position_or_len (λ (byte : ℕ). byte == 32) (x ∷ xs ++ 32 ∷ b) ≡ 1 + position_or_len
    (λ (byte : ℕ). byte == 32) (xs ++ 32 ∷ b) =
    ap (λ t. cond t (1 + position_or_len (λ (byte : ℕ). byte == 32) (xs ++ 32 ∷ b)) 0) parts.0 in
    omega arith

pub first_word-spaced : (a b : List ℕ) → list_all (λ byte. not (byte == 32)) a ≡ true → first_word (a ++ 32 ∷ b) ≡ a
first_word-spaced a b none = ap (λ (n : ℕ). take n (a ++ 32 ∷ b)) (first_space a b none) ∙ take-append_seam a (32 ∷ b)

pub other_words-spaced : (a b : List ℕ) → list_all (λ byte. not (byte == 32)) a ≡ true → other_words (a ++ 32 ∷ b) ≡ b
other_words-spaced a b none = ap (λ (n : ℕ). drop (n + 1) (a ++ 32 ∷ b)) (first_space a b none)
    ∙ drop-append-add a (32 ∷ b) 1

-- a text with more than one word
pub spaced_again : (text : List ℕ) → 0 < length (other_words text) → text ≡ first_word text ++ 32 ∷ other_words text
spaced_again text some =
    elim (nat_le (length text) (position_or_len (λ (byte : ℕ). byte == 32) text)) as (λ b. nat_le (length text)
    (position_or_len (λ (byte : ℕ). byte == 32) text) ≡ b → text ≡ first_word text ++ 32 ∷ other_words text) [
      | true ↦ λ e.
          let past : length text ≤ position_or_len (λ (byte : ℕ). byte == 32) text = leb-true _ _ e in
          let none : other_words text ≡ [] = drop_all (position_or_len (λ (byte : ℕ). byte == 32) text + 1) text
          (omega arith) in
          let zero_long : length (other_words text) ≡ 0 = ap length none in
          absurd (omega arith)
      | false ↦ λ e.
          let within : position_or_len (λ (byte : ℕ). byte == 32) text < length text = grind (arith, nat_tests) in
          let here : (get_or text (position_or_len (λ (byte : ℕ). byte == 32) text) 0 == 32) ≡ true =
          passes_at_first (λ (byte : ℕ). byte == 32) text 0 within in
          let same : get_or text (position_or_len (λ (byte : ℕ). byte == 32) text) 0 ≡ 32 = grind (arith, nat_tests) in
          split_at_first (λ (byte : ℕ). byte == 32) text 0 within
          ∙ ap (λ (x : ℕ). first_word text ++ x ∷ other_words text) same
    ] refl
