use Rattle.std.proofs.Common.{rules}
use Rattle.command_ends.proofs.explain.send_line.Goals as goal

pub returns-in-OutFault : goal.returns-in-OutFault
returns-in-OutFault g c = search rules
