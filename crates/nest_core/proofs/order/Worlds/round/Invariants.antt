use Rattle.std.proofs.Common.{◌≡◌, ◌⊎◌, ◌<◌, ℕ}
use Rattle.std.specs.List.{range_with_len}
use Rattle.nest_core.specs.Orders.{numbered_step, after_steps, both_left, BothKeep}
use Rattle.nest_core.proofs.order.Worlds.round.Given as goal

abbrev pub invariant-loop-number : goal.invariant-loop-number
invariant-loop-number l = record {
  made : l.self ≡ after_steps l.initial.self (range_with_len 0 l.number);
  keep : BothKeep l.initial.self l.self;
  less : (both_left l.self < both_left l.initial.self)
      ⊎ ((l.self ≡ l.initial.self) × ((m : ℕ) → m < l.number → numbered_step l.initial.self m ≡ l.initial.self));
}
