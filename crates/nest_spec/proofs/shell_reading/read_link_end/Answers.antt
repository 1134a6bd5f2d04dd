use Rattle.std.proofs.Common.{rules}
use Rattle.nest_spec.proofs.shell_reading.read_link_end.Goals as goal

pub returns : goal.returns
returns c = search rules
