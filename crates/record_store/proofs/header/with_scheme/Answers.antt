use Rattle.std.proofs.Common.{rules}
use Rattle.record_store.proofs.header.with_scheme.Goals as goal

pub returns-then-is_lower_word-clause-header : goal.returns-then-is_lower_word-clause-header
returns-then-is_lower_word-clause-header c = search rules
