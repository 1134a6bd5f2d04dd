-- A moment alone in the first line of a text.
use Rattle.std.proofs.Common.{◌≡◌, ℕ, ◌+◌, ◌-◌, ◌<◌, ◌≤◌, List, ◌∷◌, ◌++◌, length, get_or, take, drop, Some, ap, ◌∙◌, arith}
use Rattle.std.proofs.Common.{length-append}
use Rattle.text_base.specs.Lines.{lines_of}
use Rattle.text_base.specs.Numbers.{decimal_of}
use Rattle.text_base.proofs.CutLemmas.{feed_first}
use Rattle.text_base.proofs.NumbersLemmas.{decimal_of-Some, is_one_line-digits}
use Rattle.text_base.proofs.TextLemmas.{lines_of-line}

pub moment_in_front : (text rest : List ℕ) (n : ℕ) → (word : List ℕ) × (text ≡ word ++ rest)
    × (decimal_of word ≡ Some n) → 1 ≤ length rest → get_or rest 0 0 ≡ 10
    → (line : List ℕ) × (lines_of text ≡ line ∷ lines_of (take (length rest - 1) (drop 1 rest)))
    × (decimal_of line ≡ Some n) × (length (take (length rest - 1) (drop 1 rest)) < length text)
moment_in_front text rest n (word, cut, e) some feed =
    let after = take (length rest - 1) (drop 1 rest) in
    let fed : rest ≡ 10 ∷ after = feed_first rest (omega (arith, some)) feed in
    let whole : text ≡ word ++ 10 ∷ after = cut ∙ ap (λ r. word ++ r) fed in
    let long : length text ≡ length word + length (10 ∷ after) = ap length whole ∙ length-append word (10 ∷ after) in (
      word,
      ap lines_of whole ∙ lines_of-line word after (is_one_line-digits word (decimal_of-Some word n e).digits),
      e,
      omega arith,
    )
