use Rattle.std.proofs.Common.{◌≡◌}
use Rattle.nest_tests.proofs.states.many.pass.Given as goal

abbrev pub invariant-packets : goal.invariant-packets
invariant-packets l = l.state.horizon ≡ 1000
