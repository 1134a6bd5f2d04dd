use Rattle.std.proofs.Common.{rules}
use Rattle.link_core.proofs.parts.Parts.burn.Goals as goal

pub returns-clause-count : goal.returns-clause-count
returns-clause-count g c = search rules

pub returns-clause-burnt : goal.returns-clause-burnt
returns-clause-burnt g c = search rules
