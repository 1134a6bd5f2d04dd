-- Numbers that are written are read again, and what is read is written again.
use Rattle.std.proofs.Common.{◌≡◌, ℕ, ◌+◌, ◌-◌, ◌*◌, ◌^◌, ◌<◌, ◌≤◌, ◌&&◌, not, eqb, Bool, true, false, cond, List, []}
use Rattle.std.proofs.Common.{◌∷◌, length, get_or, fold, Option, Some, None, nat_le, refl, ap, sym, subst, ◌∙◌, arith}
use Rattle.std.proofs.Common.{rules, tests}
use Rattle.std.specs.List.{list_all}
use Rattle.std.specs.Fmt.{decimal}
use Rattle.std.proofs.lemmas.Str.Parse.{IsNumeralModel, numerals_by_fold, digits_value_short}
use Rattle.std.proofs.lemmas.Fmt.{digits_decimal, digits_value-decimal, length-decimal-le, decimal_is_IsNumeral}
use Rattle.std.proofs.lemmas.Fmt.{decimal-digits_value, decimal_digit, first_decimal}
use Rattle.std.proofs.lemmas.Option.{cond_some}
use Rattle.std.proofs.lemmas.Bool.Decides.{nat_tests}
use Rattle.text_base.specs.Lines.{is_one_line}
use Rattle.text_base.specs.Numbers.{is_digit, is_decimal, value_of_digits, decimal_of, leads_with_zero, canonical_of}

abbrev value_on : ℕ → List ℕ → ℕ
value_on n text = fold (λ value byte. value * 10 + (byte - 48)) n text

own : IsNumeralModel (λ ds. list_all is_digit ds ≡ true) (value_on 0)
own = numerals_by_fold _ (search rules) value_on (search rules)

by_parts : (a b c : Bool) (v n : ℕ) → a ≡ true → b ≡ true → c ≡ true → v ≡ n → cond (a && b && c) (Some v) None ≡ Some n
by_parts a b c v n p q r e = ap (λ x. cond (x && b && c) (Some v) None) p ∙ ap (λ x. cond (x && c) (Some v) None) q
    ∙ ap (λ x. cond x (Some v) None) r ∙ ap Some e

-- one to ten digits are a decimal
pub decimal_of_digits : (text : List ℕ) (n : ℕ) → 1 ≤ length text → length text ≤ 10 → list_all is_digit text ≡ true
    → value_of_digits text ≡ n → decimal_of text ≡ Some n
decimal_of_digits text n some few digits e =
    let one : nat_le 1 (length text) ≡ true = search (rules, tests) in
    let ten : nat_le (length text) 10 ≡ true = search (rules, tests) in
    by_parts (nat_le 1 (length text)) (nat_le (length text) 10) (list_all is_digit text) (value_of_digits text) n one
    ten digits e

-- a number of at most ten digits is read from what is written of it
pub decimal_of-decimal : (n : ℕ) → n < 10 ^ 10 → decimal_of (decimal n) ≡ Some n
decimal_of-decimal n small =
    let fits : n < 2 ^ 64 = omega arith in
    let some = (decimal_is_IsNumeral n fits).0.0 in
    let few : length (decimal n) ≤ 10 = length-decimal-le 10 n (omega arith) small fits in
    let one : nat_le 1 (length (decimal n)) ≡ true = search (rules, tests) in
    let ten : nat_le (length (decimal n)) 10 ≡ true = search (rules, tests) in
    by_parts (nat_le 1 (length (decimal n))) (nat_le (length (decimal n)) 10) (list_all is_digit (decimal n))
    (value_of_digits (decimal n)) n one ten (digits_decimal own n fits) (digits_value-decimal own n fits)

-- what a text has that is a decimal
pub record IsDecimal (text : List ℕ) (n : ℕ) : Type 0 where
  pub some : 1 ≤ length text
  pub few : length text ≤ 10
  pub digits : list_all is_digit text ≡ true
  pub value : value_of_digits text ≡ n
  pub small : n < 10 ^ 10

three : (a b c : Bool) → (a && b && c) ≡ true → (a ≡ true) × (b ≡ true) × (c ≡ true)
three true true c e = (refl, refl, e)
three true false c e = search rules
three false b c e = search rules

pub decimal_of-Some : (text : List ℕ) (n : ℕ) → decimal_of text ≡ Some n → IsDecimal text n
decimal_of-Some text n e =
    let read = cond_some (is_decimal text) (value_of_digits text) n e in
    let parts = three (nat_le 1 (length text)) (nat_le (length text) 10) (list_all is_digit text) read.0 in
    let some : 1 ≤ length text = search (rules, tests) in
    let few : length text ≤ 10 = search (rules, tests) in
    record {
      some = some;
      few = few;
      digits = parts.2;
      value = read.1;
      small = subst (λ v. v < 10 ^ 10) read.1 (digits_value_short own text 10 parts.2 few);
    }

leads-decimal : (n : ℕ) (text : List ℕ) → decimal n ≡ text → n < 2 ^ 64 → leads_with_zero text ≡ false
leads-decimal n [] e fits = refl
leads-decimal n (first ∷ []) e fits = refl
leads-decimal n (first ∷ second ∷ rest) e fits =
    elim (nat_le 1 n) as (λ b. nat_le 1 n ≡ b → eqb first 48 ≡ false) [
      | true ↦ λ above. let p : 0 < n = grind (arith, nat_tests) in
          let q : 48 < first = subst (λ t. 48 < get_or t 0 0) e (first_decimal n p fits) in grind (arith, nat_tests)
      | false ↦ λ below. let p : n < 10 = grind (arith, nat_tests) in
          let q : (48 + n) ∷ [] ≡ first ∷ second ∷ rest = sym (decimal_digit n p) ∙ e in cc
    ] refl

-- it is read as well where leading zeros are refused
pub canonical_of-decimal : (n : ℕ) → n < 10 ^ 10 → canonical_of (decimal n) ≡ Some n
canonical_of-decimal n small = ap (λ b. cond b None (decimal_of (decimal n)))
    (leads-decimal n (decimal n) refl (omega arith)) ∙ decimal_of-decimal n small

no_zero_first : (b : Bool) (o : Option ℕ) (n : ℕ) → cond b None o ≡ Some n → (b ≡ false) × (o ≡ Some n)
no_zero_first true o n e = search rules
no_zero_first false o n e = (refl, e)

one_if_zero : (text : List ℕ) → leads_with_zero text ≡ false → 1 ≤ length text → get_or text 0 0 ≡ 48 → length text ≡ 1
one_if_zero [] plain some zero = absurd (omega arith)
one_if_zero (first ∷ []) plain some zero = refl
one_if_zero (first ∷ second ∷ rest) plain some zero = grind (arith, nat_tests)

pub canonical_of-Some : (text : List ℕ) (n : ℕ) → canonical_of text ≡ Some n → IsDecimal text n
canonical_of-Some text n e = decimal_of-Some text n (no_zero_first (leads_with_zero text) (decimal_of text) n e).1

-- a text that is read without a leading zero is what is written of its value
pub decimal-canonical_of : (text : List ℕ) (n : ℕ) → canonical_of text ≡ Some n → decimal n ≡ text
decimal-canonical_of text n e =
    let parts = no_zero_first (leads_with_zero text) (decimal_of text) n e in
    let read = decimal_of-Some text n parts.1 in
    let small : value_of_digits text < 2 ^ 64 = omega (arith, read.value, read.small) in
    ap decimal (sym read.value)
    ∙ decimal-digits_value own text read.digits (omega (arith, read.some)) (one_if_zero text parts.0 read.some) small

-- what holds of each digit holds of each byte of a decimal
pub all_digits_are : (test : ℕ → Bool) → ((byte : ℕ) → is_digit byte ≡ true → test byte ≡ true) → (text : List ℕ)
    → list_all is_digit text ≡ true → list_all test text ≡ true
all_digits_are test each [] all = refl
all_digits_are test each (byte ∷ bytes) all =
    let parts = two (is_digit byte) (list_all is_digit bytes) all in
    ap (λ b. b && list_all test bytes) (each byte parts.0) ∙ all_digits_are test each bytes parts.1
  where
    two : (a b : Bool) → (a && b) ≡ true → (a ≡ true) × (b ≡ true)
    two true b e = (refl, e)
    two false b e = search rules

digit_is_no_feed : (byte : ℕ) → is_digit byte ≡ true → not (eqb byte 10) ≡ true
digit_is_no_feed byte digit = grind (arith, nat_tests)

digit_is_no_blank : (byte : ℕ) → is_digit byte ≡ true → not (eqb byte 32) ≡ true
digit_is_no_blank byte digit = grind (arith, nat_tests)

-- a written number is digits alone
pub digits-decimal : (n : ℕ) → n < 2 ^ 64 → list_all is_digit (decimal n) ≡ true
digits-decimal n fits = digits_decimal own n fits

-- digits have no line feed
pub is_one_line-digits : (text : List ℕ) → list_all is_digit text ≡ true → is_one_line text ≡ true
is_one_line-digits text digits = all_digits_are (λ byte. not (eqb byte 10)) digit_is_no_feed text digits

-- nor has a written number
pub is_one_line-decimal : (n : ℕ) → n < 2 ^ 64 → is_one_line (decimal n) ≡ true
is_one_line-decimal n fits = is_one_line-digits (decimal n) (digits-decimal n fits)

-- and no space
pub no_space-decimal : (n : ℕ) → n < 2 ^ 64 → list_all (λ byte. not (eqb byte 32)) (decimal n) ≡ true
no_space-decimal n fits = all_digits_are (λ byte. not (eqb byte 32)) digit_is_no_blank (decimal n)
    (digits-decimal n fits)
