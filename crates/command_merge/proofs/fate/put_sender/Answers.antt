use Rattle.std.proofs.Common.{◌≡◌, ◌+◌, ◌/◌, ◌%◌, ◌++◌, ◌∷◌, [], decimal, ap, sym, arith, ◌∙◌}
use Rattle.std.proofs.lemmas.Fmt.{decimal_digit, decimal_step}
use Rattle.command_merge.proofs.fate.put_sender.Goals as goal

pub returns-then-sender-ge10-clause-bytes : goal.returns-then-sender-ge10-clause-bytes
returns-then-sender-ge10-clause-bytes c =
    let n = c.args.sender in
    let old = c.args.out.now in
    let texts : decimal n ≡ (48 + n / 10) ∷ (48 + n % 10) ∷ [] =
    decimal_step n c.if-sender-ge10.true (omega arith)
    ∙ ap (λ l. l ++ (48 + n % 10) ∷ []) (decimal_digit (n / 10) (omega arith)) in
    c.put_byte-then-sender-ge10.ensures.bytes ∙ ap (λ l. (48 + n / 10) ∷ l) c.put_byte.ensures.bytes
    ∙ ap (λ l. l ++ old) (sym texts)

pub returns-else-sender-ge10-clause-bytes : goal.returns-else-sender-ge10-clause-bytes
returns-else-sender-ge10-clause-bytes c =
    let n = c.args.sender in
    let old = c.args.out.now in
    let same : n % 10 ≡ n = omega arith in
    c.put_byte.ensures.bytes ∙ ap (λ d. (48 + d) ∷ old) same
    ∙ ap (λ l. l ++ old) (sym (decimal_digit n (omega (arith, c.if-sender-ge10.false))))
