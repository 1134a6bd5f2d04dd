use Rattle.std.proofs.Common.{◌≡◌, ◌≤◌, ◌-◌, length, take}
use Rattle.std.specs.Option.{option_map}
use Rattle.mm_base.specs.Link.{CountsLinkFaults, giving}
use Rattle.replay_server.proofs.giving.give.Given as goal

abbrev pub invariant-loop-at : goal.invariant-loop-at
invariant-loop-at g l = record {
  within : l.at ≤ length l.piece;
  so_far : (g.L.Link.view l.link).told ≡ option_map (giving (take l.at l.piece)) (g.L.Link.view l.fn.link).told;
  counts : CountsLinkFaults (g.L.Link.view l.fn.link) (g.L.Link.view l.link);
}

abbrev pub decreases-loop-at : goal.decreases-loop-at
decreases-loop-at g l = length l.piece - l.at
