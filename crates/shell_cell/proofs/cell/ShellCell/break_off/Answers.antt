use Rattle.std.proofs.Common.{◌∙◌}
use Rattle.shell_cell.specs.declared.view.DrainCall.TheVariants.{Breaks}
use Rattle.shell_cell.proofs.Calls.{in_slot, may_drain}
use Rattle.shell_cell.proofs.Clauses.{drain_spends, drain_flow, drain_finds}
use Rattle.shell_cell.proofs.StateLaws.{break_broken}
use Rattle.shell_cell.proofs.cell.ShellCell.break_off.Goals as goal

pub spend-requires-clause-spends : goal.spend-requires-clause-spends
spend-requires-clause-spends g c =
    may_drain _ _ _ Breaks _ _ (in_slot _ _ _ _ c.claim-word.ensures.taken c.slot_mut-state.ensures.value)
    c.seat.invariant.role tt
    c.break_off.ensures

pub returns-clause-turn : goal.returns-clause-turn
returns-clause-turn g c = drain_spends _ _ _ _ _ _ _ c.seat.view_is
    (in_slot _ _ _ _ c.claim-word.ensures.taken c.slot_mut-state.ensures.value) _ Breaks
    c.spend.ensures.spent c.spend.ensures.above

pub returns-clause-flow : goal.returns-clause-flow
returns-clause-flow g c = drain_flow _ _ _ _ _ _ _ c.seat.view_is
    (in_slot _ _ _ _ c.claim-word.ensures.taken c.slot_mut-state.ensures.value) Breaks
    c.spend.ensures.spent

pub returns-clause-broken : goal.returns-clause-broken
returns-clause-broken g c = drain_finds _ _ _ _ _ _ _ c.seat.view_is
    (in_slot _ _ _ _ c.claim-word.ensures.taken c.slot_mut-state.ensures.value) Breaks
    c.spend.ensures.spent ∙ break_broken _
