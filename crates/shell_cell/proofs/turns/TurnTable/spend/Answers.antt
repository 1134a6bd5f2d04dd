use Rattle.std.proofs.Common.{rules, sym, subst}
use Rattle.shell_cell.specs.declared.view.Call.{Call}
use Rattle.shell_cell.specs.inside.Rule.{IsDone}
use Rattle.shell_cell.proofs.Keeps.{spends_turn}
use Rattle.shell_cell.proofs.turns.TurnTable.spend.Goals as goal

pub store-requires : goal.store-requires
store-requires g c = (
  search rules,
  search rules,
  spends_turn _ g.J.Spending.call _ _ c.args.word _ _
      (subst (λ (k : Call). IsDone k c.args.seat.now.me c.args.word) (sym c.requires.call) c.requires.spends)
      (search rules),
)

pub returns-clause-spent : goal.returns-clause-spent
returns-clause-spent g c = search rules
