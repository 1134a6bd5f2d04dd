-- Digits at the front of a text are put into a word, the last into its highest byte.
use Rattle.std.proofs.Common.{◌≡◌, ℕ, ◌+◌, ◌*◌, ◌-◌, ◌%◌, ◌^◌, ◌<◌, ◌≤◌, true, ap, ◌∙◌, arith, suc, zero}
use Rattle.std.proofs.Common.{List, [], ◌∷◌, ◌++◌, fold, map, length, take, get_or, replicate, refl}
use Rattle.std.proofs.lemmas.Nat.{le_bytes_8}
use Rattle.std.proofs.lemmas.Bool.Decides.{nat_tests}
use Rattle.std.proofs.lemmas.List.Elements.{All-get_or, All-weaker, All-map, All-append, All-replicate}
use Rattle.std.proofs.lemmas.List.Sums.{AllPass-from_list_all}
use Rattle.std.specs.Int.{w64, to_le_bytes, from_le_bytes}
use Rattle.std.specs.List.{list_all, All}
use lib.Lanes.{Each1}
use Rattle.text_base.specs.Numbers.{is_digit, value_of_digits}

abbrev IsDigitByte : ℕ → Type 0
IsDigitByte byte = (48 ≤ byte) × (byte ≤ 57)

digit_byte : (byte : ℕ) → is_digit byte ≡ true → IsDigitByte byte
digit_byte byte e = (grind (arith, nat_tests), grind (arith, nat_tests))

digit_at : (xs : List ℕ) → list_all is_digit xs ≡ true → (i : ℕ) → i < length xs → IsDigitByte (get_or xs i 0)
digit_at xs all i lt = digit_byte (get_or xs i 0)
    (All-get_or (λ x. is_digit x ≡ true) xs i 0 lt (AllPass-from_list_all is_digit xs all))

below : (xs : List ℕ) → Each1 (λ x. x < 256) xs → (i : ℕ) → get_or xs i 0 < 256
below [] each i = omega arith
below (x ∷ xs) each zero = each.0
below (x ∷ xs) each (suc i) = below xs each.1 i

-- the word of eight bytes, less 48 in each, whose last bytes are shifted out
abbrev word_of : (b0 b1 b2 b3 b4 b5 b6 b7 : ℕ) → ℕ
word_of b0 b1 b2 b3 b4 b5 b6 b7 = from_le_bytes w64 (b0 ∷ b1 ∷ b2 ∷ b3 ∷ b4 ∷ b5 ∷ b6 ∷ b7 ∷ [])

abbrev shifted : ℕ → ℕ → ℕ
shifted word count = (word + 14974415777481871312) % 2 ^ 64 * 2 ^ (8 * (8 - count)) % 2 ^ 64

abbrev aligned_bytes : ℕ → List ℕ → List ℕ
aligned_bytes count text = replicate (8 - count) 0 ++ map (λ byte. byte - 48) (take count text)

aligned : (count b0 b1 b2 b3 b4 b5 b6 b7 : ℕ) (rest : List ℕ) → 0 < count → count < 8
    → list_all is_digit (take count (b0 ∷ b1 ∷ b2 ∷ b3 ∷ b4 ∷ b5 ∷ b6 ∷ b7 ∷ rest)) ≡ true
    → to_le_bytes w64 (shifted (word_of b0 b1 b2 b3 b4 b5 b6 b7) count)
    ≡ aligned_bytes count (b0 ∷ b1 ∷ b2 ∷ b3 ∷ b4 ∷ b5 ∷ b6 ∷ b7 ∷ rest)
aligned zero b0 b1 b2 b3 b4 b5 b6 b7 rest some few all = absurd (omega arith)
aligned (suc zero) b0 b1 b2 b3 b4 b5 b6 b7 rest some few all =
    let d0 = digit_at (b0 ∷ []) all 0 (omega arith) in
    le_bytes_8 (0 ∷ 0 ∷ 0 ∷ 0 ∷ 0 ∷ 0 ∷ 0 ∷ (b0 - 48) ∷ []) _ refl (below (0 ∷ 0 ∷ 0 ∷ 0 ∷ 0 ∷ 0 ∷ 0 ∷ (b0 - 48) ∷ []) (
      omega arith,
      (
        omega arith,
        (
          omega arith,
          (
            omega arith,
            (
              omega arith,
              (
                omega arith,
                (
                  omega arith,
                  (
                    omega (
                      arith,
                      d0.1,
                    ),
                    tt,
                  ),
                ),
              ),
            ),
          ),
        ),
      ),
    )) (omega (arith, d0.0, d0.1))
aligned (suc (suc zero)) b0 b1 b2 b3 b4 b5 b6 b7 rest some few all =
    let d0 = digit_at (b0 ∷ b1 ∷ []) all 0 (omega arith) in
    let d1 = digit_at (b0 ∷ b1 ∷ []) all 1 (omega arith) in
    le_bytes_8 (0 ∷ 0 ∷ 0 ∷ 0 ∷ 0 ∷ 0 ∷ (b0 - 48) ∷ (b1 - 48) ∷ []) _ refl (below (0 ∷ 0 ∷ 0 ∷ 0 ∷ 0 ∷ 0 ∷ (b0 - 48) ∷
    (b1 - 48) ∷ []) (
      omega arith,
      (
        omega arith,
        (
          omega arith,
          (
            omega arith,
            (
              omega arith,
              (
                omega arith,
                (
                  omega (
                    arith,
                    d0.1,
                  ),
                  (omega (arith, d1.1), tt),
                ),
              ),
            ),
          ),
        ),
      ),
    )) (omega (arith, d0.0, d0.1, d1.0, d1.1))
aligned (suc (suc (suc zero))) b0 b1 b2 b3 b4 b5 b6 b7 rest some few all =
    let d0 = digit_at (b0 ∷ b1 ∷ b2 ∷ []) all 0 (omega arith) in
    let d1 = digit_at (b0 ∷ b1 ∷ b2 ∷ []) all 1 (omega arith) in
    let d2 = digit_at (b0 ∷ b1 ∷ b2 ∷ []) all 2 (omega arith) in
    le_bytes_8 (0 ∷ 0 ∷ 0 ∷ 0 ∷ 0 ∷ (b0 - 48) ∷ (b1 - 48) ∷ (b2 - 48) ∷ []) _ refl (below (0 ∷ 0 ∷ 0 ∷ 0 ∷ 0 ∷ (b0 -
    48) ∷ (b1 - 48) ∷ (b2 - 48) ∷ []) (
      omega arith,
      (
        omega arith,
        (
          omega arith,
          (
            omega arith,
            (
              omega arith,
              (
                omega
                    (arith, d0.1),
                (omega (arith, d1.1), (omega (arith, d2.1), tt)),
              ),
            ),
          ),
        ),
      ),
    )) (omega (
      arith,
      d0.0,
      d0.1,
      d1.0,
      d1.1,
      d2.0,
      d2.1,
    ))
aligned (suc (suc (suc (suc zero)))) b0 b1 b2 b3 b4 b5 b6 b7 rest some few all =
    let d0 = digit_at (b0 ∷ b1 ∷ b2 ∷ b3 ∷ []) all 0 (omega arith) in
    let d1 = digit_at (b0 ∷ b1 ∷ b2 ∷ b3 ∷ []) all 1 (omega arith) in
    let d2 = digit_at (b0 ∷ b1 ∷ b2 ∷ b3 ∷ []) all 2 (omega arith) in
    let d3 = digit_at (b0 ∷ b1 ∷ b2 ∷ b3 ∷ []) all 3 (omega arith) in
    le_bytes_8 (0 ∷ 0 ∷ 0 ∷ 0 ∷ (b0 - 48) ∷ (b1 - 48) ∷ (b2 - 48) ∷ (b3 - 48) ∷ []) _ refl (below (0 ∷ 0 ∷ 0 ∷ 0 ∷ (b0
    - 48) ∷ (b1 - 48) ∷ (b2 - 48) ∷ (b3 - 48) ∷ []) (
      omega arith,
      (
        omega arith,
        (
          omega arith,
          (
            omega arith,
            (
              omega
                  (arith, d0.1),
              (omega (arith, d1.1), (omega (arith, d2.1), (omega (arith, d3.1), tt))),
            ),
          ),
        ),
      ),
    )) (omega (
      arith,
      d0.0,
      d0.1,
      d1.0,
      d1.1,
      d2.0,
      d2.1,
      d3.0,
      d3.1,
    ))
aligned (suc (suc (suc (suc (suc zero))))) b0 b1 b2 b3 b4 b5 b6 b7 rest some few all =
    let d0 = digit_at (b0 ∷ b1 ∷ b2 ∷ b3 ∷ b4 ∷ []) all 0 (omega arith) in
    let d1 = digit_at (b0 ∷ b1 ∷ b2 ∷ b3 ∷ b4 ∷ []) all 1 (omega arith) in
    let d2 = digit_at (b0 ∷ b1 ∷ b2 ∷ b3 ∷ b4 ∷ []) all 2 (omega arith) in
    let d3 = digit_at (b0 ∷ b1 ∷ b2 ∷ b3 ∷ b4 ∷ []) all 3 (omega arith) in
    let d4 = digit_at (b0 ∷ b1 ∷ b2 ∷ b3 ∷ b4 ∷ []) all 4 (omega arith) in
    le_bytes_8 (0 ∷ 0 ∷ 0 ∷ (b0 - 48) ∷ (b1 - 48) ∷ (b2 - 48) ∷ (b3 - 48) ∷ (b4 - 48) ∷ []) _ refl (below (0 ∷ 0 ∷ 0 ∷
    (b0 - 48) ∷ (b1 - 48) ∷ (b2 - 48) ∷ (b3 - 48) ∷ (b4 - 48) ∷ []) (
      omega arith,
      (
        omega arith,
        (
          omega arith,
          (
            omega
                (arith, d0.1),
            (omega (arith, d1.1), (omega (arith, d2.1), (omega (arith, d3.1), (omega (arith, d4.1), tt)))),
          ),
        ),
      ),
    ))
    (omega (arith, d0.0, d0.1, d1.0, d1.1, d2.0, d2.1, d3.0, d3.1, d4.0, d4.1))
aligned (suc (suc (suc (suc (suc (suc zero)))))) b0 b1 b2 b3 b4 b5 b6 b7 rest some few all =
    let d0 = digit_at (b0 ∷ b1 ∷ b2 ∷ b3 ∷ b4 ∷ b5 ∷ []) all 0 (omega arith) in
    let d1 = digit_at (b0 ∷ b1 ∷ b2 ∷ b3 ∷ b4 ∷ b5 ∷ []) all 1 (omega arith) in
    let d2 = digit_at (b0 ∷ b1 ∷ b2 ∷ b3 ∷ b4 ∷ b5 ∷ []) all 2 (omega arith) in
    let d3 = digit_at (b0 ∷ b1 ∷ b2 ∷ b3 ∷ b4 ∷ b5 ∷ []) all 3 (omega arith) in
    let d4 = digit_at (b0 ∷ b1 ∷ b2 ∷ b3 ∷ b4 ∷ b5 ∷ []) all 4 (omega arith) in
    let d5 = digit_at (b0 ∷ b1 ∷ b2 ∷ b3 ∷ b4 ∷ b5 ∷ []) all 5 (omega arith) in
    le_bytes_8 (0 ∷ 0 ∷ (b0 - 48) ∷ (b1 - 48) ∷ (b2 - 48) ∷ (b3 - 48) ∷ (b4 - 48) ∷ (b5 - 48) ∷ []) _ refl (below (0 ∷
    0 ∷ (b0 - 48) ∷ (b1 - 48) ∷ (b2 - 48) ∷ (b3 - 48) ∷ (b4 - 48) ∷ (b5 - 48) ∷ []) (
      omega arith,
      (
        omega arith,
        (
          omega
              (arith, d0.1),
          (
            omega (arith, d1.1),
            (
              omega (arith, d2.1),
              (
                omega (arith, d3.1),
                (
                  omega (arith, d4.1),
                  (
                    omega
                        (arith, d5.1),
                    tt,
                  ),
                ),
              ),
            ),
          ),
        ),
      ),
    )) (omega (arith, d0.0, d0.1, d1.0, d1.1, d2.0, d2.1, d3.0, d3.1, d4.0, d4.1, d5.0, d5.1))
aligned (suc (suc (suc (suc (suc (suc (suc zero))))))) b0 b1 b2 b3 b4 b5 b6 b7 rest some few all =
    let d0 = digit_at (b0 ∷ b1 ∷ b2 ∷ b3 ∷ b4 ∷ b5 ∷ b6 ∷ []) all 0 (omega arith) in
    let d1 = digit_at (b0 ∷ b1 ∷ b2 ∷ b3 ∷ b4 ∷ b5 ∷ b6 ∷ []) all 1 (omega arith) in
    let d2 = digit_at (b0 ∷ b1 ∷ b2 ∷ b3 ∷ b4 ∷ b5 ∷ b6 ∷ []) all 2 (omega arith) in
    let d3 = digit_at (b0 ∷ b1 ∷ b2 ∷ b3 ∷ b4 ∷ b5 ∷ b6 ∷ []) all 3 (omega arith) in
    let d4 = digit_at (b0 ∷ b1 ∷ b2 ∷ b3 ∷ b4 ∷ b5 ∷ b6 ∷ []) all 4 (omega arith) in
    let d5 = digit_at (b0 ∷ b1 ∷ b2 ∷ b3 ∷ b4 ∷ b5 ∷ b6 ∷ []) all 5 (omega arith) in
    let d6 = digit_at (b0 ∷ b1 ∷ b2 ∷ b3 ∷ b4 ∷ b5 ∷ b6 ∷ []) all 6 (omega arith) in
    le_bytes_8 (0 ∷ (b0 - 48) ∷ (b1 - 48) ∷ (b2 - 48) ∷ (b3 - 48) ∷ (b4 - 48) ∷ (b5 - 48) ∷ (b6 - 48) ∷ []) _ refl
    (below (0 ∷ (b0 - 48) ∷ (b1 - 48) ∷ (b2 - 48) ∷ (b3 - 48) ∷ (b4 - 48) ∷ (b5 - 48) ∷ (b6 - 48) ∷ []) (
      omega arith,
      (
        omega (arith, d0.1),
        (
          omega (arith, d1.1),
          (
            omega (arith, d2.1),
            (
              omega (arith, d3.1),
              (
                omega (arith, d4.1),
                (omega (arith, d5.1), (omega (arith, d6.1), tt)),
              ),
            ),
          ),
        ),
      ),
    )) (omega (
      arith,
      d0.0,
      d0.1,
      d1.0,
      d1.1,
      d2.0,
      d2.1,
      d3.0,
      d3.1,
      d4.0,
      d4.1,
      d5.0,
      d5.1,
      d6.0,
      d6.1,
    ))
aligned (suc (suc (suc (suc (suc (suc (suc (suc count)))))))) b0 b1 b2 b3 b4 b5 b6 b7 rest some few all = absurd (omega arith)

pub digits_aligned : (text : List ℕ) (count word : ℕ) → 8 ≤ length text → 0 < count → count < 8
    → list_all is_digit (take count text) ≡ true
    → word ≡ from_le_bytes w64 (get_or text 0 0 ∷ get_or text 1 0 ∷ get_or text 2 0 ∷ get_or text 3 0 ∷ get_or text 4 0
    ∷ get_or text 5 0 ∷ get_or text 6 0 ∷ get_or text 7 0 ∷ [])
    → to_le_bytes w64 (shifted word count) ≡ aligned_bytes count text
digits_aligned [] count word long some few all e = absurd (omega arith)
digits_aligned (b0 ∷ []) count word long some few all e = absurd (omega arith)
digits_aligned (b0 ∷ b1 ∷ []) count word long some few all e = absurd (omega arith)
digits_aligned (b0 ∷ b1 ∷ b2 ∷ []) count word long some few all e = absurd (omega arith)
digits_aligned (b0 ∷ b1 ∷ b2 ∷ b3 ∷ []) count word long some few all e = absurd (omega arith)
digits_aligned (b0 ∷ b1 ∷ b2 ∷ b3 ∷ b4 ∷ []) count word long some few all e = absurd (omega arith)
digits_aligned (b0 ∷ b1 ∷ b2 ∷ b3 ∷ b4 ∷ b5 ∷ []) count word long some few all e = absurd (omega arith)
digits_aligned (b0 ∷ b1 ∷ b2 ∷ b3 ∷ b4 ∷ b5 ∷ b6 ∷ []) count word long some few all e = absurd (omega arith)
digits_aligned (b0 ∷ b1 ∷ b2 ∷ b3 ∷ b4 ∷ b5 ∷ b6 ∷ b7 ∷ rest) count word long some few all e =
    ap (λ w. to_le_bytes w64 (shifted w count)) e ∙ aligned count b0 b1 b2 b3 b4 b5 b6 b7 rest some few all

abbrev step : ℕ → ℕ → ℕ
step value digit = value * 10 + digit

no_zeros : (n : ℕ) (xs : List ℕ) → fold step 0 (replicate n 0 ++ xs) ≡ fold step 0 xs
no_zeros zero xs = refl
no_zeros (suc n) xs = no_zeros n xs

of_bytes : (xs : List ℕ) (value : ℕ) → fold step value (map (λ byte. byte - 48) xs)
    ≡ fold (λ value byte. value * 10 + (byte - 48)) value xs
of_bytes [] value = refl
of_bytes (x ∷ xs) value = of_bytes xs (value * 10 + (x - 48))

-- the number of the word's digits is that of the text's
pub value_aligned : (text : List ℕ) (count : ℕ) → fold step 0 (aligned_bytes count text)
    ≡ value_of_digits (take count text)
value_aligned text count = no_zeros (8 - count) (map (λ byte. byte - 48) (take count text)) ∙ of_bytes (take count text) 0

less_48 : (xs : List ℕ) → list_all is_digit xs ≡ true → All (λ digit. digit < 10) (map (λ byte. byte - 48) xs)
less_48 xs all = All-map (λ digit. digit < 10) (λ byte. byte - 48) xs
    (All-weaker (λ x. is_digit x ≡ true) (λ byte. byte - 48 < 10) (λ byte e. omega (arith, (digit_byte byte e).1)) xs
    (AllPass-from_list_all is_digit xs all))

-- its bytes are digits
pub digits_below : (text : List ℕ) (count : ℕ) → list_all is_digit (take count text) ≡ true
    → All (λ digit. digit < 10) (aligned_bytes count text)
digits_below text count all =
    All-append (λ digit. digit < 10) (replicate (8 - count) 0) (map (λ byte. byte - 48) (take count text))
    (All-replicate (λ digit. digit < 10) (8 - count) 0 (omega arith)) (less_48 (take count text) all)
