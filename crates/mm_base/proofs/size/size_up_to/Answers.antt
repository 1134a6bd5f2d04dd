use Rattle.std.proofs.Common.{rules}
use Rattle.mm_base.proofs.size.size_up_to.Goals as goal

pub returns-then-size-most-clause-failed_cause : goal.returns-then-size-most-clause-failed_cause
returns-then-size-most-clause-failed_cause g c = search rules

pub returns-then-size-most-clause-unread : goal.returns-then-size-most-clause-unread
returns-then-size-most-clause-unread g c = search rules

pub returns-then-size-most-clause-too_long : goal.returns-then-size-most-clause-too_long
returns-then-size-most-clause-too_long g c = search rules
