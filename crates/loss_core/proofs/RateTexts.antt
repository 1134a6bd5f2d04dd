-- Texts with points, and how large their digits can be.
use Rattle.std.proofs.Common.{◌≡◌, ℕ, ◌+◌, ◌-◌, ◌*◌, ◌^◌, ◌<◌, ◌≤◌, ◌&&◌, ◌==◌, Bool, true, false, cond, List, [], ◌∷◌}
use Rattle.std.proofs.Common.{length, Option, Some, None, IfSome, zero, suc, lit<, fold, nat_le, refl, ap, sym, ◌∙◌}
use Rattle.std.proofs.Common.{arith, rules, tests}
use Rattle.std.proofs.lemmas.Nat.{pow-add}
use Rattle.std.proofs.Math.Nat.{mul-lt-mul_of_pos_right}
use Rattle.std.specs.List.{position, position_or_len, onto_first, list_all}
use Rattle.std.proofs.lemmas.Str.Parse.{IsNumeralModel, numerals_by_fold, digits_value_short}
use Rattle.text_base.specs.Numbers.{is_digit, value_of_digits, decimal_of}
use Rattle.loss_core.specs.Rates.{parts_of, billionths_of}

by_test : (b : Bool) (m n : ℕ) → cond b (Some m) None ≡ Some n → (b ≡ true) × (m ≡ n)
by_test true m n e = (refl, cc)
by_test false m n e = absurd cc

-- the first point
pub at_point : (xs : List ℕ) (n : ℕ) → position (λ b. b == 46) xs ≡ Some n → n ≡ position_or_len (λ b. b == 46) xs
at_point xs n e = sym (by_test _ _ n e).1

pub some_part : (xs : List ℕ) → (w : List ℕ) × (ws : List (List ℕ)) × (parts_of xs ≡ w ∷ ws)
some_part [] = ([], [], refl)
some_part (x ∷ xs) =
    elim (x == 46) as (λ b. (w : List ℕ) × (ws : List (List ℕ))
    × (cond b ([] ∷ parts_of xs) (onto_first x (parts_of xs)) ≡ w ∷ ws)) [
      | true ↦ ([], parts_of xs, refl)
      | false ↦ let rest = some_part xs in (x ∷ rest.0, rest.1, ap (onto_first x) rest.2)
    ]

-- a third part is too many
pub three_parts : (text a b rest rest' : List ℕ) → parts_of text ≡ a ∷ parts_of rest
    → parts_of rest ≡ b ∷ parts_of rest' → None ≡ billionths_of (parts_of text)
three_parts text a b rest rest' e f =
    let some = some_part rest' in
    sym (ap billionths_of (e ∙ ap (λ ws. a ∷ ws) (f ∙ ap (λ ws. b ∷ ws) some.2)))

abbrev value_on : ℕ → List ℕ → ℕ
value_on n text = fold (λ value byte. value * 10 + (byte - 48)) n text

own : IsNumeralModel (λ ds. list_all is_digit ds ≡ true) (value_on 0)
own = numerals_by_fold _ (search rules) value_on (search rules)

by_tests : (a b c : Bool) (v n : ℕ) → cond (a && b && c) (Some v) None ≡ Some n → (c ≡ true) × (v ≡ n)
by_tests true true true v n e = (refl, cc)
by_tests true true false v n e = absurd cc
by_tests true false c v n e = absurd cc
by_tests false b c v n e = absurd cc

-- a number of `n` digits is below the `n`-th power of ten
pub decimal_of-lt : (text : List ℕ) (n k : ℕ) → decimal_of text ≡ Some n → length text ≤ k → n < 10 ^ k
decimal_of-lt text n k e le =
    let t = by_tests (nat_le 1 (length text)) (nat_le (length text) 10) (list_all is_digit text)
    (value_of_digits text) n e in
    let lt : value_of_digits text < 10 ^ k = digits_value_short own text k t.0 le in
    let same : value_of_digits text ≡ n = t.1 in
    rw (sym same) lt

ten_digits : (a b c : Bool) (v n : ℕ) → cond (a && b && c) (Some v) None ≡ Some n → b ≡ true
ten_digits a true c v n e = refl
ten_digits true false c v n e = absurd cc
ten_digits false false c v n e = absurd cc

pub decimal_of-small : (text : List ℕ) (r : Option ℕ) → r ≡ decimal_of text → IfSome r (λ n. n < 10 ^ 10)
decimal_of-small text None e = tt
decimal_of-small text (Some n) e =
    let few : nat_le (length text) 10 ≡ true = ten_digits (nat_le 1 (length text)) (nat_le (length text) 10)
    (list_all is_digit text) (value_of_digits text) n (sym e) in
    decimal_of-lt text n 10 (sym e) (let le : length text ≤ 10 = search (rules, tests) in le)

positive : (k : ℕ) → 0 < 10 ^ k
positive zero = lit< tt
positive (suc k) =
    let more : 0 < 10 ^ k = positive k in
    let step : 10 ^ (k + 1) ≡ 10 ^ k * 10 = pow-add 10 k 1 in
    let same : suc k ≡ k + 1 = omega arith in
    rw same (rw step (omega arith))

-- some digits, and zeros behind them up to nine
pub filled-lt : (v k : ℕ) → v < 10 ^ k → k ≤ 9 → v * 10 ^ (9 - k) < 1000000000
filled-lt v k lt le =
    let less : v * 10 ^ (9 - k) < 10 ^ k * 10 ^ (9 - k) = mul-lt-mul_of_pos_right lt (positive (9 - k)) in
    let nine : k + (9 - k) ≡ 9 = omega arith in
    let same : 10 ^ k * 10 ^ (9 - k) ≡ 1000000000 = sym (pow-add 10 k (9 - k)) ∙ ap (λ n. 10 ^ n) nine in
    rw (sym same) less

pub fraction-lt : (text : List ℕ) (v pow : ℕ) → decimal_of text ≡ Some v → length text ≤ 9
    → pow ≡ 10 ^ (9 - length text) → v * pow < 1000000000
fraction-lt text v pow e le is =
    rw is (filled-lt v (length text) (decimal_of-lt text v (length text) e (omega arith)) le)
