use Rattle.std.proofs.Common.{◌≡◌, ◌-◌, ◌<◌, ◌≤◌, ℕ, ◌++◌, List, Some, false, length, take, drop, get_or, subst, sym, ◌∙◌, refl, ap}
use Rattle.std.proofs.Common.{arith, length-drop, length-append}
use Rattle.std.proofs.lemmas.List.{take_all}
use Rattle.text_base.specs.Numbers.{is_digit, decimal_of}
use Rattle.text_base.proofs.NumbersLemmas.{decimal_of-Some}
use Rattle.text_base.proofs.SplitLemmas.{front_read, front_every}
use Rattle.text_base.proofs.numbers.split_decimal.Goals as goal

pub returns-then-count-eq0-clause-every : goal.returns-then-count-eq0-clause-every
returns-then-count-eq0-clause-every c =
    let text = c.args.text.now in
    let k = c.count_digits-count.result in
    let count = c.count_digits-count.ensures in
    let stops : 0 < length text → 0 < 10 → is_digit (get_or text 0 0) ≡ false =
    λ in_text few. subst (λ i. is_digit (get_or text i 0) ≡ false) c.if-count-eq0.true (count.stops (omega arith)) in
    λ word rest n cut e other.
    let whole = (front_every text word rest n 0 0 cut e other (omega arith) refl refl stops).1 in
    omega (arith, ap length whole, ap length cut, length-append word rest, (decimal_of-Some word n e).some)

pub returns-then-count-lt-AT_ONCE-clause-read : goal.returns-then-count-lt-AT_ONCE-clause-read
returns-then-count-lt-AT_ONCE-clause-read c =
    let text = c.args.text.now in
    let k = c.count_digits-count.result in
    let count = c.count_digits-count.ensures in
    let within : k ≤ length text = omega (arith, count.few) in
    let rest : take (length text - k) (drop k text) ≡ drop k text = take_all (length text - k) (drop k text)
    (omega (arith, length-drop k text)) in
    subst (λ l. (word : List ℕ) × (text ≡ word ++ l) × (decimal_of word ≡ Some c.value_of_front.result)) (sym rest)
    (front_read text c.value_of_front.result k (omega (arith, c.if-count-eq0.false)) (omega (arith, count.few)) within
    count.digits c.value_of_front.ensures)

pub returns-then-count-lt-AT_ONCE-clause-every : goal.returns-then-count-lt-AT_ONCE-clause-every
returns-then-count-lt-AT_ONCE-clause-every c =
    let text = c.args.text.now in
    let k = c.count_digits-count.result in
    let count = c.count_digits-count.ensures in
    let within : k ≤ length text = omega (arith, count.few) in
    let whole : take (length text - k) (drop k text) ≡ drop k text = take_all (length text - k) (drop k text)
    (omega (arith, length-drop k text)) in
    let stops : k < length text → k < 10 → is_digit (get_or text k 0) ≡ false =
    λ in_text few. count.stops (omega (arith, c.if-count-lt-AT_ONCE.true)) in
    λ word rest n cut e other.
    let both = front_every text word rest n c.value_of_front.result k cut e other within count.digits
    c.value_of_front.ensures stops in
    (both.0, whole ∙ both.1)
