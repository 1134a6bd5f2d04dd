use Rattle.std.proofs.Common.{◌≡◌}
use Rattle.delay_core.proofs.Fronts.{partly}
use Rattle.delay_core.proofs.whole.let_out.Given as goal

-- the packets up to here are late
abbrev pub invariant-loop-t : goal.invariant-loop-t
invariant-loop-t l = l.packets ≡ partly l.rule.delay l.fn.packets l.t-index
