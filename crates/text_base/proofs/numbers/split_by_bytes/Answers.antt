use Rattle.std.proofs.Common.{◌≡◌, ◌-◌, ◌<◌, ℕ, ◌++◌, List, Some, false, length, take, drop, get_or, subst, sym, ◌∙◌}
use Rattle.std.proofs.Common.{arith, rules, length-drop}
use Rattle.std.proofs.lemmas.Grind.{common_steps}
use Rattle.std.proofs.lemmas.List.{take_all}
use Rattle.text_base.specs.Numbers.{is_digit, decimal_of}
use Rattle.text_base.proofs.SplitLemmas.{front_read, front_every}
use Rattle.text_base.proofs.numbers.split_by_bytes.Goals.{then-loop-count-test+else-is_digit, else-loop-count-test}
use Rattle.text_base.proofs.numbers.split_by_bytes.Goals as goal

pub returns-clause-read : goal.returns-clause-read
returns-clause-read c =
    let text = c.args.text.now in
    let k = c.loop-count.count in
    let inv = c.loop-count.invariant in
    let rest : take (length text - k) (drop k text) ≡ drop k text = take_all (length text - k) (drop k text)
    (omega (arith, length-drop k text)) in
    subst (λ l. (word : List ℕ) × (text ≡ word ++ l) × (decimal_of word ≡ Some c.loop-count.value)) (sym rest)
    (front_read text c.loop-count.value k (omega (arith, c.if-count-eq0.false)) inv.few inv.within inv.digits inv.value)

pub returns-clause-every : goal.returns-clause-every
returns-clause-every c =
    let text = c.args.text.now in
    let k = c.loop-count.count in
    let inv = c.loop-count.invariant in
    let whole : take (length text - k) (drop k text) ≡ drop k text = take_all (length text - k) (drop k text)
    (omega (arith, length-drop k text)) in
    let stops : k < length text → k < 10 → is_digit (get_or text k 0) ≡ false = elim c.loop-count-test.branch [
      | then-loop-count-test+else-is_digit w ↦ λ within few. search rules
      | else-loop-count-test w ↦ λ within few. absurd (omega (arith, w.loop-count-test.false))
    ] in
    λ word rest n cut e other.
    let both = front_every text word rest n c.loop-count.value k cut e other inv.within inv.digits inv.value stops in
    (both.0, whole ∙ both.1)

pub returns-then-count-eq0-clause-every : goal.returns-then-count-eq0-clause-every
returns-then-count-eq0-clause-every c = grind (arith, common_steps)

pub returns-then-count-eq0-clause-none : goal.returns-then-count-eq0-clause-none
returns-then-count-eq0-clause-none c = search rules
