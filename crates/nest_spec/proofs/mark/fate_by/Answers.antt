use Rattle.std.proofs.Common.{rules}
use Rattle.nest_spec.proofs.mark.fate_by.Goals as goal

pub returns-in-Leaves-clause-fate : goal.returns-in-Leaves-clause-fate
returns-in-Leaves-clause-fate c = search rules
