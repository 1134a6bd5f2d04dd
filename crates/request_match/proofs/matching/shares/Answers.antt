use Rattle.std.proofs.Common.{◌∙◌, sym, arith}
use Rattle.std.proofs.Math.Bool.{true≢false}
use Rattle.std.proofs.lemmas.Bool.Decides.{Decides-eqb}
use Rattle.request_match.proofs.LineLemmas.{common_fits, common_differs}
use Rattle.request_match.proofs.matching.shares.Goals as goal

pub returns-then-line-place : goal.returns-then-line-place
returns-then-line-place c = λ e.
    omega (arith, c.if-line-place.true, (common_fits c.args.line.now c.args.asked.now).0)

pub returns-then-asked-place : goal.returns-then-asked-place
returns-then-asked-place c = λ e.
    omega (arith, c.if-asked-place.true, (common_fits c.args.line.now c.args.asked.now).1)

pub returns : goal.returns
returns c = λ e.
    common_differs c.args.line.now c.args.asked.now c.args.place
    (λ same. true≢false (sym ((Decides-eqb _ _).1 same) ∙ e))
