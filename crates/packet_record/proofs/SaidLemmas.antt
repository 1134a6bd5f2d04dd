-- The numbers of a line are below 10 ^ 10.
use Rattle.std.proofs.Common.{◌≡◌, ℕ, ◌+◌, ◌-◌, ◌*◌, ◌^◌, ◌<◌, ◌≤◌, ◌&&◌, Bool, true, false, cond, List, [], ◌∷◌}
use Rattle.std.proofs.Common.{length, fold, Option, Some, None, nat_le, refl, subst, arith, rules, tests}
use Rattle.std.specs.List.{list_all}
use Rattle.std.specs.Option.{option_and_then}
use Rattle.std.proofs.lemmas.Str.Parse.{IsNumeralModel, numerals_by_fold, digits_value_short}
use Rattle.text_base.specs.Numbers.{is_digit, value_of_digits, decimal_of}
use Rattle.packet_record.specs.Said.{fields, said_by_words, said_of, words_of, direction_of}
use Rattle.packet_record.specs.declared.line.RowFields.{RowFields}
use Rattle.packet_record.specs.declared.packet.Direction.{Direction}

abbrev pub value_on : ℕ → List ℕ → ℕ
value_on n text = fold (λ value byte. value * 10 + (byte - 48)) n text

pub own : IsNumeralModel (λ ds. list_all is_digit ds ≡ true) (value_on 0)
own = numerals_by_fold _ (search rules) value_on (search rules)

three_tests : (a b c : Bool) (v n : ℕ) → cond (a && b && c) (Some v) None ≡ Some n → (b ≡ true) × (c ≡ true) × (v ≡ n)
three_tests true true true v n e = (refl, refl, cc)
three_tests true true false v n e = absurd cc
three_tests true false c v n e = absurd cc
three_tests false b c v n e = absurd cc

at_most_ten : (n : ℕ) → nat_le n 10 ≡ true → n ≤ 10
at_most_ten n e = search (rules, tests)

pub decimal_below : (text : List ℕ) (n : ℕ) → decimal_of text ≡ Some n → n ≤ 9999999999
decimal_below text n e =
    let parts = three_tests (nat_le 1 (length text)) (nat_le (length text) 10) (list_all is_digit text)
    (value_of_digits text) n e in
    let below : value_of_digits text < 10 ^ 10 = digits_value_short own text 10 parts.1
    (at_most_ten (length text) parts.0) in
    let same : value_of_digits text ≡ n = parts.2 in
    omega arith

three_words : (most : ℕ) (m z : Option ℕ) (d : Option Direction) (s : RowFields)
    → ((n : ℕ) → m ≡ Some n → n ≤ most)
    → option_and_then (λ a. option_and_then (λ b. option_and_then (λ c. Some (fields a b c)) z) d) m ≡ Some s → s.moment ≤ most
three_words most None z d s below e = absurd cc
three_words most (Some m) z None s below e = absurd cc
three_words most (Some m) None (Some d) s below e = absurd cc
three_words most (Some m) (Some z) (Some d) s below e =
    let at_most : m ≤ most = below m refl in
    let same : fields m d z ≡ s = cc in
    subst (λ (x : RowFields). x.moment ≤ most) same at_most

by_words : (words : List (List ℕ)) (s : RowFields) → said_by_words words ≡ Some s → s.moment ≤ 9999999999
by_words [] s e = absurd cc
by_words (a ∷ []) s e = absurd cc
by_words (a ∷ b ∷ []) s e = absurd cc
by_words (a ∷ b ∷ c ∷ []) s e = three_words 9999999999 (decimal_of a) (decimal_of c) (direction_of b) s
    (decimal_below a) e
by_words (a ∷ b ∷ c ∷ d ∷ words) s e = absurd cc

pub said_within : (line : List ℕ) (s : RowFields) → said_of line ≡ Some s → s.moment ≤ 9999999999
said_within line s e = by_words (words_of line) s e
