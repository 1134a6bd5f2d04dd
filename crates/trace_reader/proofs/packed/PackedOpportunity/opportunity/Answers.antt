use Rattle.std.proofs.Common.{rules}
use Rattle.trace_reader.proofs.packed.PackedOpportunity.opportunity.Goals as goal

pub invariant_of-result : goal.invariant_of-result
invariant_of-result c = search rules
