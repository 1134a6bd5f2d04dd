-- A text and its first line feed.
use Rattle.std.proofs.Common.{◌≡◌, ◌≢◌, ℕ, Bool, ◌==◌, not, ◌&&◌, zero, suc, ◌+◌, ◌-◌, ◌<◌, List, [], ◌∷◌, ◌++◌, length}
use Rattle.std.proofs.Common.{get_or, take, drop, true, false, refl, ap, sym, ◌∙◌, arith, rules}
use Rattle.std.proofs.lemmas.List.{take_rest}
use Rattle.text_base.specs.Lines.{is_one_line}

other : (b : Bool) (c : Bool) → b ≢ true → c ≡ true → (not b && c) ≡ true
other true c ne e = absurd (ne refl)
other false c ne e = e

pub one_line_front : (xs : List ℕ) (i : ℕ) → ((k : ℕ) → k < i → (get_or xs k 0 == 10) ≢ true)
    → is_one_line (take i xs) ≡ true
one_line_front xs zero before = refl
one_line_front [] (suc i) before = refl
one_line_front (x ∷ xs) (suc i) before =
    other (x == 10) (is_one_line (take i xs)) (before 0 (omega arith))
    (one_line_front xs i (λ k lt. before (suc k) (omega arith)))

pub one_line_none : (xs : List ℕ) → ((k : ℕ) → k < length xs → (get_or xs k 0 == 10) ≢ true) → is_one_line xs ≡ true
one_line_none [] none = refl
one_line_none (x ∷ xs) none =
    other (x == 10) (is_one_line xs) (none 0 (omega arith)) (one_line_none xs (λ k lt. none (suc k) (omega arith)))

pub cut_at : (xs : List ℕ) (i : ℕ) → i < length xs → (get_or xs i 0 == 10) ≡ true → xs ≡ take i xs
    ++ 10 ∷ drop (i + 1) xs
cut_at [] i within here = absurd (omega arith)
cut_at (x ∷ xs) zero within here =
    let feed : x ≡ 10 = search rules in
    let drop_one : drop (0 + 1) (x ∷ xs) ≡ xs = ap (λ n. drop n (x ∷ xs)) (let e : 0 + 1 ≡ suc 0 = refl in e) in
    ap (λ b. b ∷ xs) feed ∙ ap (λ l. 10 ∷ l) (sym drop_one)
cut_at (x ∷ xs) (suc i) within here =
    let index : suc i + 1 ≡ suc (i + 1) = omega arith in
    ap (λ l. x ∷ l) (cut_at xs i (omega arith) here) ∙ ap (λ n. x ∷ (take i xs ++ 10 ∷ drop n (x ∷ xs))) (sym index)

-- a text that begins with a line feed
pub feed_first : (xs : List ℕ) → 0 < length xs → get_or xs 0 0 ≡ 10 → xs ≡ 10 ∷ take (length xs - 1) (drop 1 xs)
feed_first [] some e = absurd (omega arith)
feed_first (x ∷ xs) some e = ap (λ b. b ∷ xs) e ∙ ap (λ l. 10 ∷ l) (sym (take_rest (x ∷ xs) 1))
