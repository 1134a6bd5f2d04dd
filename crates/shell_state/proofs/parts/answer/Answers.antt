use Rattle.std.proofs.Common.{rules}
use Rattle.shell_state.proofs.parts.answer.Goals as goal

pub returns-clause-is : goal.returns-clause-is
returns-clause-is c = search rules

pub returns-then-is_over-clause-is : goal.returns-then-is_over-clause-is
returns-then-is_over-clause-is c = search rules

pub returns-then-burnt-most-clause-is : goal.returns-then-burnt-most-clause-is
returns-then-burnt-most-clause-is c = search rules

pub returns-then-taken-floor-clause-is : goal.returns-then-taken-floor-clause-is
returns-then-taken-floor-clause-is c = search rules
