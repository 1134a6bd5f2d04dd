use Rattle.std.proofs.Common.{◌≡◌, ◌%◌, ◌≤◌, map, take}
use Rattle.nest_core.specs.Orders.{numbers_of, after_steps, BothKeep}
use Rattle.nest_core.proofs.order.Worlds.follow.Given as goal

abbrev pub invariant-loop-byte : goal.invariant-loop-byte
invariant-loop-byte l = record {
  made : l.worlds ≡ after_steps l.initial.worlds (map (λ b. b % l.count) (take l.byte-index l.order));
  keep : BothKeep l.initial.worlds l.worlds;
  count : l.count ≡ numbers_of l.initial.worlds;
  some : 1 ≤ l.count;
}
