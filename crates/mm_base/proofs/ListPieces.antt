-- A list taken in pieces.
use Rattle.std.proofs.Common.{◌≡◌, ℕ, ◌+◌, ◌-◌, ◌≤◌, ◌++◌, List, [], ◌∷◌, length, take, drop, zero, suc, refl, ap, sym}
use Rattle.std.proofs.Common.{◌∙◌, arith, length-append}
use Rattle.std.proofs.lemmas.List.{take_all, take_rest}

nothing : (n : ℕ) → take {A = ℕ} n [] ≡ []
nothing zero = refl
nothing (suc n) = refl

-- the first n, and the next k
pub take-append-take : (xs : List ℕ) (n k : ℕ) → take n xs ++ take k (drop n xs) ≡ take (n + k) xs
take-append-take xs zero k = ap (λ j. take j xs) (omega arith)
take-append-take [] (suc n) k = nothing k ∙ sym (nothing (suc n + k))
take-append-take (x ∷ xs) (suc n) k = ap (λ l. x ∷ l) (take-append-take xs n k)
    ∙ ap (λ j. take j (x ∷ xs)) (let e : suc (n + k) ≡ suc n + k = omega arith in e)

-- a piece of what is left is appended
pub next_piece : (xs : List ℕ) (at n : ℕ) → take at xs ++ take n (take (length xs - at) (drop at xs)) ≡ take (at + n) xs
next_piece xs at n = ap (λ l. take at xs ++ take n l) (take_rest xs at) ∙ take-append-take xs at n

-- a front and the piece behind it
pub appended_piece : (whole front piece : List ℕ) → front ≡ take (length front) whole → (n : ℕ) → length piece ≡ n
    → piece ≡ take n (drop (length front) whole) → front ++ piece ≡ take (length (front ++ piece)) whole
appended_piece whole front piece is n long read =
    ap (λ l. front ++ l) read ∙ ap (λ l. l ++ take n (drop (length front) whole)) is
    ∙ take-append-take whole (length front) n
    ∙ ap (λ j. take j whole) (let e : length front + n ≡ length (front ++ piece) = omega (
      arith,
      long,
      length-append front piece,
    ) in e)

-- the front that has the size, or all
pub front_of_size : (whole bytes : List ℕ) (size : ℕ) → bytes ≡ take (length bytes) whole → length bytes ≡ size
    → bytes ≡ take size whole
front_of_size whole bytes size front e = front ∙ ap (λ n. take n whole) e

pub front_is_all : (whole bytes : List ℕ) (size : ℕ) → bytes ≡ take (length bytes) whole → length bytes ≤ size
    → length whole ≤ length bytes → bytes ≡ take size whole
front_is_all whole bytes size front le all = front ∙ take_all (length bytes) whole all
    ∙ sym (take_all size whole (omega arith))
