use Rattle.std.proofs.Common.{rules}
use Rattle.shell_state.proofs.front.Front.add.Goals as goal

pub returns : goal.returns
returns c = search rules
