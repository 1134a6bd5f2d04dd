use Rattle.request_match.specs.inside.Index.{HasFrontsTo}
use Rattle.request_match.proofs.index_entries.fronts_of.Given as goal

abbrev pub invariant-loop-i : goal.invariant-loop-i
invariant-loop-i l = HasFrontsTo l.records l.entries l.i l.fronts.items
