use Rattle.request_match.specs.inside.Index.{HasCopiesTo}
use Rattle.request_match.proofs.copies.copies_of.Given as goal

abbrev pub invariant-loop-i : goal.invariant-loop-i
invariant-loop-i l = HasCopiesTo l.records l.entries l.i l.copies.items
