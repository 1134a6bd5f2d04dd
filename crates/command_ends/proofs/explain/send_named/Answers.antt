use Rattle.std.proofs.Common.{rules}
use Rattle.command_ends.proofs.explain.send_named.Goals as goal

pub returns : goal.returns
returns g c = search rules
