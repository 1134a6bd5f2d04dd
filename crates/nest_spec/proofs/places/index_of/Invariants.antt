use Rattle.nest_spec.proofs.Indexing.{IsIndexTo}
use Rattle.nest_spec.proofs.places.index_of.Given as goal

abbrev pub invariant-loop-i : goal.invariant-loop-i
invariant-loop-i l = IsIndexTo l.rows l.i l.index
