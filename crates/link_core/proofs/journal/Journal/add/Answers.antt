use Rattle.std.proofs.Common.{rules}
use Rattle.link_core.proofs.journal.Journal.add.Goals as goal

pub returns-then-self-clause-entries : goal.returns-then-self-clause-entries
returns-then-self-clause-entries c = search rules
