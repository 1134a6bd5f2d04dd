use Rattle.std.proofs.Common.{rules}
use Rattle.shell_state.proofs.Answering.{nothing_burns}
use Rattle.shell_state.proofs.parts.burn.Goals as goal

pub returns-then-has_ready-clause-count : goal.returns-then-has_ready-clause-count
returns-then-has_ready-clause-count c = nothing_burns c.args.core.now c.args.fed c.args.taken c.args.most
    c.if-has_ready.ensures.yes

pub returns-clause-count : goal.returns-clause-count
returns-clause-count c = search rules
