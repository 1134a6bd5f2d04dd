use Rattle.std.proofs.Common.{arith}
use Rattle.std.proofs.lemmas.List.{length-map}
use Rattle.nest_spec.specs.declared.shell.ShellDirection.{ShellDirection}
use Rattle.nest_spec.specs.Nests.{shells_in}
use Rattle.nest_spec.proofs.NestLemmas.{shells_long}
use Rattle.nest_core.proofs.world.new_stations.Goals as goal

pub returns-clause-few : goal.returns-clause-few
returns-clause-few c =
    let is = c.shells.ensures.nest in
    let few = is.few in
    let long = length-map (shells_in c.args.direction c.args.nest.now) (λ (s : ShellDirection). s.spec) in
    omega (arith, shells_long c.args.direction c.args.nest.now)
