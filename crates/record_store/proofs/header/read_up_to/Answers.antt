use Rattle.std.proofs.Common.{rules}
use Rattle.record_store.proofs.header.read_up_to.Goals as goal

pub returns-in-Some-clause-number : goal.returns-in-Some-clause-number
returns-in-Some-clause-number c = search rules
