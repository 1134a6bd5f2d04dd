use Rattle.sender_merge.specs.inside.Inlets.{AllSame}
use Rattle.sender_merge.proofs.merger.receive_rest.Given as goal

abbrev pub invariant-loop : goal.invariant-loop
invariant-loop g l = AllSame l.fn.inlets l.inlets
