use Rattle.std.proofs.Common.{◌≡◌}
use Rattle.nest_tests.proofs.states.steps.play.Given as goal

abbrev pub invariant-steps : goal.invariant-steps
invariant-steps l = l.state.horizon ≡ l.horizon
