use Rattle.std.proofs.Common.{rules}
use Rattle.nest_spec.proofs.packed_fate.PackedFate.of_kind.Goals as goal

pub returns-in-Down : goal.returns-in-Down
returns-in-Down c = search rules
