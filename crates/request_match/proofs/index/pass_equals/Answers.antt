use Rattle.std.proofs.Common.{sym, subst}
use Rattle.request_match.specs.inside.Index.{Passes}
use Rattle.request_match.proofs.index.pass_equals.Goals as goal

pub returns-in-Some-clause-stands : goal.returns-in-Some-clause-stands
returns-in-Some-clause-stands c =
    subst (λ s. Passes c.args.entries.now c.args.fronts.now s c.args.start c.args.place c.pass_scored.result.0
    c.pass_scored.result.1) (sym c.in-Some.is) c.pass_scored.ensures.stands
