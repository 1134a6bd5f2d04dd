use Rattle.std.proofs.Common.{rules}
use Rattle.shell_cell.proofs.Keeps.{undoes_turn}
use Rattle.shell_cell.proofs.turns.TurnTable.give_up.Goals as goal

pub store-requires : goal.store-requires
store-requires c = (search rules, search rules, undoes_turn _ _ _ _ _ _ c.requires.gives (search rules))

pub returns-clause-given : goal.returns-clause-given
returns-clause-given c = search rules
