use Rattle.std.proofs.Common.{◌≡◌, length}
use Rattle.nest_spec.proofs.places.empty_lists.Given as goal

abbrev pub invariant-loop : goal.invariant-loop
invariant-loop l = length l.lists.items ≡ l.counter
