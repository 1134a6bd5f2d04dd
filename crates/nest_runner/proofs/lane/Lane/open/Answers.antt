use Rattle.std.proofs.Common.{◌≡◌, ◌∙◌, length, ap, arith, List}
use Rattle.std.proofs.lemmas.List.{length-map}
use Rattle.shell_state.specs.declared.spec.DirSpec.{DirSpec}
use Rattle.nest_spec.specs.declared.shell.ShellDirection.{ShellDirection}
use Rattle.nest_spec.specs.Nests.{directions_of, shells_in}
use Rattle.nest_spec.proofs.NestLemmas.{shells_long}
use Rattle.shell_workers.specs.declared.stage.Stage.{Stage}
use Rattle.nest_runner.specs.Lanes.{specs_of}
use Rattle.nest_runner.proofs.lane.Lane.open.Goals as goal

pub returns-clause-few : goal.returns-clause-few
returns-clause-few c =
    let few = c.shells.ensures.nest.few in
    let stages = c.in_ok-path.path.stages.items in
    let long = length-map (shells_in c.args.direction c.args.nest.now) (λ (s : ShellDirection). s.spec) in
    let same : length (specs_of stages) ≡ length (directions_of c.args.direction c.args.nest.now) =
    ap (λ (l : List DirSpec). length l) (c.in_ok-path.ensures.specs ∙ c.in_ok-specs.ensures.list) in
    let one = length-map stages (λ (s : Stage). s.cell.opening.spec) in
    omega (arith, shells_long c.args.direction c.args.nest.now)

pub returns-clause-long : goal.returns-clause-long
returns-clause-long c =
    let stages = c.in_ok-path.path.stages.items in
    let long = length-map (shells_in c.args.direction c.args.nest.now) (λ (s : ShellDirection). s.spec) in
    let same : length (specs_of stages) ≡ length (directions_of c.args.direction c.args.nest.now) =
    ap (λ (l : List DirSpec). length l) (c.in_ok-path.ensures.specs ∙ c.in_ok-specs.ensures.list) in
    let one = length-map stages (λ (s : Stage). s.cell.opening.spec) in
    omega (arith, shells_long c.args.direction c.args.nest.now)
