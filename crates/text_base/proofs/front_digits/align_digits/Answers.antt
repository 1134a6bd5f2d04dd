use Rattle.text_base.proofs.AlignLemmas.{digits_aligned}
use Rattle.text_base.proofs.front_digits.align_digits.Goals as goal

pub returns : goal.returns
returns c =
    let given = c.requires in
    digits_aligned c.args.text.now c.args.count c.from_le_bytes-word.result given.long given.some given.few given.digits
    c.from_le_bytes-word.ensures
