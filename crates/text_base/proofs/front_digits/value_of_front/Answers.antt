use Rattle.std.proofs.Common.{◌<◌, ◌+◌, ◌*◌, ◌∙◌, ap, sym, subst, fold}
use Rattle.std.specs.List.{All}
use Rattle.text_base.proofs.AlignLemmas.{digits_below, value_aligned}
use Rattle.text_base.proofs.front_digits.value_of_front.Goals as goal

pub join_digits-requires : goal.join_digits-requires
join_digits-requires c =
    subst (All (λ digit. digit < 10)) (sym c.align_digits.ensures)
    (digits_below c.args.text.now c.args.count c.requires.digits)

pub returns : goal.returns
returns c =
    c.join_digits.ensures ∙ ap (fold (λ value digit. value * 10 + digit) 0) c.align_digits.ensures
    ∙ value_aligned c.args.text.now c.args.count
