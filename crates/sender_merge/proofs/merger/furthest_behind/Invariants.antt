use Rattle.sender_merge.proofs.Inletting.{IsFurthest}
use Rattle.sender_merge.proofs.merger.furthest_behind.Given as goal

abbrev pub invariant-loop-place : goal.invariant-loop-place
invariant-loop-place l = IsFurthest l.place l.inlets l.least
