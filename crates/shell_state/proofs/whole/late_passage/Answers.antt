use Rattle.std.proofs.Common.{rules}
use Rattle.shell_state.proofs.whole.late_passage.Goals as goal

pub returns-clause-held : goal.returns-clause-held
returns-clause-held c = search rules
