use Rattle.std.proofs.Common.{rules, refl}
use Rattle.shell_cell.proofs.Keeps.{claims_turn}
use Rattle.shell_cell.proofs.turns.TurnTable.claim_at_once.Goals as goal

pub compare_exchange-found-requires : goal.compare_exchange-found-requires
compare_exchange-found-requires c = (
  search rules,
  search rules,
  claims_turn _ _ _ _ _ _ c.requires.role (search rules) refl,
)
