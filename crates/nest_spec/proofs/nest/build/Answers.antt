use Rattle.std.proofs.Common.{List, subst, sym}
use Rattle.nest_spec.specs.declared.shell.LinkDirection.{LinkDirection}
use Rattle.nest_spec.specs.declared.shell.Shell.{Shell}
use Rattle.nest_spec.specs.Nests.{NestParts, IsNest}
use Rattle.nest_spec.proofs.BuildLemmas.{nest_built}
use Rattle.nest_spec.proofs.nest.build.Goals as goal

pub invariant_of-result : goal.invariant_of-result
invariant_of-result c =
    let a = c.args in
    subst (λ (shells : List (Shell LinkDirection)). let parts : NestParts =
    record { shells = shells; seed = a.seed; horizon = a.horizon } in IsNest parts)
    (sym c.in_ok-shells.ensures.shells)
    (nest_built a.words a.traces.items a.seed a.horizon c.in_ok-shells.ensures.plan c.requires.traces
    c.requires.horizon c.requires.few)
