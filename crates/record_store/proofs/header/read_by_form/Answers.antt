use Rattle.std.proofs.Common.{rules}
use Rattle.record_store.proofs.header.read_by_form.Goals as goal

pub returns-in-One-clause-header : goal.returns-in-One-clause-header
returns-in-One-clause-header c = search rules
