use Rattle.std.proofs.Common.{◌+◌, ◌∷◌, ◌==◌, ◌<◌, length, take, drop, ap, sym, ◌∙◌, subst}
use Rattle.std.proofs.lemmas.List.{take_rest}
use Rattle.std.proofs.lemmas.List.Splits.{slice_split_first, slice_split_none}
use Rattle.loss_core.specs.Rates.{parts_of}
use Rattle.loss_core.proofs.RateTexts.{at_point}
use Rattle.loss_core.proofs.rate.split_point.Goals as goal

pub returns-in-Some : goal.returns-in-Some
returns-in-Some c =
    let text = c.args.text.now in
    let first = at_point text c.in-Some.end (sym c.in-Some.ensures.place) in
    slice_split_first (λ byte. byte == 46) text 0 (subst (λ n. n < length text) first c.in-Some.ensures.within)
    ∙ ap (λ n. take n text ∷ parts_of (drop (n + 1) text)) (sym first)
    ∙ ap (λ l. take c.in-Some.end text ∷ parts_of l) (sym (take_rest text (c.in-Some.end + 1)))

pub returns-in-None : goal.returns-in-None
returns-in-None c = slice_split_none (λ byte. byte == 46) c.args.text.now c.in-None.ensures.none
