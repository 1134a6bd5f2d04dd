use Rattle.std.proofs.Common.{◌≤◌, ◌+◌, length}
use Rattle.std.specs.Prelude.{vec_len, vec_capacity}
use Rattle.loss_core.proofs.Wholes.{Draws}
use Rattle.loss_core.proofs.whole.lose_all.Given as goal

abbrev pub invariant-loop-t : goal.invariant-loop-t
invariant-loop-t g l = record {
  draws : Draws l.fn.rate.billionths (g.W.Words.word l.fn.words) (g.W.Words.word l.words) l.arrivals l.t-index
      l.departed.items l.lost.items;
  departed_room : vec_len l.departed + length l.arrivals ≤ vec_capacity l.departed + l.t-index;
  lost_room : vec_len l.lost + length l.arrivals ≤ vec_capacity l.lost + l.t-index;
}
