use Rattle.std.proofs.Common.{refl}
use Rattle.text_base.proofs.JoinLemmas.{joined}
use Rattle.text_base.proofs.front_digits.join_digits.Goals as goal

pub returns : goal.returns
returns c = joined c.args.digits c.ranges.digits.fits c.requires _ _ refl refl
