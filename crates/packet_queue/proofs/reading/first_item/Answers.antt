use Rattle.std.proofs.Common.{◌+◌, ◌∷◌, ◌==◌, ℕ, List, take, ap, sym, ◌∙◌}
use Rattle.std.proofs.lemmas.List.{take_rest}
use Rattle.std.specs.List.{slice_split}
use Rattle.packet_queue.proofs.ArgumentsLemmas.{items_at, items_one}
use Rattle.packet_queue.proofs.reading.first_item.Goals as goal

pub returns-in-Some-clause-items : goal.returns-in-Some-clause-items
returns-in-Some-clause-items c =
    items_at (λ b. b == 44) c.args.text.now c.in-Some.end (sym c.comma_at.ensures ∙ c.in-Some.is)
    ∙ ap (λ (l : List ℕ). take c.in-Some.end c.args.text.now ∷ slice_split (λ b. b == 44) l)
    (sym (take_rest c.args.text.now (c.in-Some.end + 1)))

pub returns-in-None-clause-items : goal.returns-in-None-clause-items
returns-in-None-clause-items c = items_one (λ b. b == 44) c.args.text.now (sym c.comma_at.ensures ∙ c.in-None.is)
