use Rattle.std.proofs.Common.{rules}
use Rattle.command_ends.proofs.inputs.cause_of_load.Goals as goal

pub returns-in-Absent : goal.returns-in-Absent
returns-in-Absent c = search rules

pub returns-in-TooLong : goal.returns-in-TooLong
returns-in-TooLong c = search rules
