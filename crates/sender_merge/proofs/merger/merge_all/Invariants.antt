use Rattle.sender_merge.proofs.Thinning.{Runs}
use Rattle.sender_merge.proofs.merger.merge_all.Given as goal

abbrev pub invariant-loop : goal.invariant-loop
invariant-loop g l = Runs l.fn.inlets l.inlets l.core l.fn.to l.to
