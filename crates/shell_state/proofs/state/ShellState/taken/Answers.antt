use Rattle.std.proofs.Common.{rules}
use Rattle.shell_state.proofs.state.ShellState.taken.Goals as goal

pub returns : goal.returns
returns c = search rules
