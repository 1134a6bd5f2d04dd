use Rattle.std.proofs.Common.{◌≡◌}
use Rattle.nest_tests.proofs.states.many.drain.Given as goal

abbrev pub invariant-takes : goal.invariant-takes
invariant-takes l = l.state.horizon ≡ 1000
