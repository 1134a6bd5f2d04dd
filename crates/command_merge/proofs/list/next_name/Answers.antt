use Rattle.std.proofs.Common.{rules}
use Rattle.command_merge.proofs.list.next_name.Goals as goal

pub returns-clause-fault : goal.returns-clause-fault
returns-clause-fault c = search rules

pub returns-clause-few : goal.returns-clause-few
returns-clause-few c = search rules
