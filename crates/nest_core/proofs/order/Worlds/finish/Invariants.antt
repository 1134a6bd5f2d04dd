use Rattle.std.proofs.Common.{◌≡◌, ℕ}
use Rattle.nest_core.specs.Orders.{after_rounds, both_left, BothKeep}
use Rattle.nest_core.proofs.order.Worlds.finish.Given as goal

abbrev pub invariant-rounds : goal.invariant-rounds
invariant-rounds l = record {
  made : (n : ℕ) × (l.worlds ≡ after_rounds n l.initial.worlds);
  keep : BothKeep l.initial.worlds l.worlds;
}

abbrev pub decreases-rounds : goal.decreases-rounds
decreases-rounds l = both_left l.worlds
