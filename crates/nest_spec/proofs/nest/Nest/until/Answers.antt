use Rattle.std.proofs.Common.{ap, arith}
use Rattle.nest_spec.specs.Nests.{NestParts}
use Rattle.nest_spec.specs.views.Nest.{nest_view}
use Rattle.nest_spec.proofs.UntilLemmas.{is_until}
use Rattle.nest_spec.proofs.nest.Nest.until.Goals as goal

pub invariant_of-result : goal.invariant_of-result
invariant_of-result c =
    let le = c.requires in
    let same = ap (λ (n : NestParts). n.horizon) c.self.view_is in
    is_until c.args.horizon (nest_view c.self.inside) c.self.invariant (omega arith)
