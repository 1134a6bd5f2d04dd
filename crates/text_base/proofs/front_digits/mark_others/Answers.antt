use Rattle.text_base.proofs.FrontLemmas.{marked}
use Rattle.text_base.proofs.front_digits.mark_others.Goals as goal

pub returns : goal.returns
returns c = marked c.args.bytes c.fits-bytes.0 c.fits-bytes.1
