use Rattle.std.proofs.Common.{◌∙◌, ℕ, List, [], Err, refl, sym, ap, subst, arith, append-nil}
use Rattle.std.proofs.lemmas.Result.{err_from_is_err_and}
use Rattle.record_store.specs.StoreText.{StoreSays}
use Rattle.record_store.proofs.StoreLaws.{all_read}
use Rattle.record_store.proofs.reading.read_rest.Goals as goal

pub returns-in_err-read_on : goal.returns-in_err-read_on
returns-in_err-read_on c = λ text reaches at.
    let p = err_from_is_err_and c.from_residual.result c.from_residual.ensures.1 in
    let e = c.in_err-read_on.field-0.0 in
    subst (StoreSays text) (sym (p.1 ∙ ap Err p.2))
    (subst (λ (l : List ℕ). StoreSays l (Err e)) (append-nil text)
    (c.in_err-read_on.ensures.refused text [] reaches at (λ ended. refl)))

pub returns : goal.returns
returns c = λ text reaches at.
    let n = c.in_ok-read_on.field-0 in
    let all = c.in_ok-read_on.ensures.whole refl in
    all_read c.args.form text c.args.bytes.now c.read_on.new.store n _ (omega (arith, all))
    (c.in_ok-read_on.ensures.reached text reaches at) refl
