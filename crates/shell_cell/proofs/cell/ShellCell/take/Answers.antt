use Rattle.std.proofs.Common.{inr, Ok, ap}
use Rattle.shell_cell.specs.declared.view.DrainCall.TheVariants.{Takes}
use Rattle.shell_cell.proofs.Calls.{in_slot, may_drain, may_give_up}
use Rattle.shell_cell.proofs.Clauses.{drain_open, drain_spends, take_found, take_took, take_broken_again, take_keeps}
use Rattle.shell_cell.proofs.cell.ShellCell.take.Goals as goal

pub spend-requires-clause-spends : goal.spend-requires-clause-spends
spend-requires-clause-spends g c =
    may_drain _ _ _ (Takes c.args.most c.in-Ok.answer) _ _
    (in_slot _ _ _ _ c.claim-word.ensures.taken c.slot_mut-state.ensures.value) c.seat.invariant.role (
      c.requires.most,
      drain_open _ _ _ c.claim-word.new.seat.me _ _ _ c.seat.view_is
          (in_slot _ _ _ _ c.claim-word.ensures.taken c.slot_mut-state.ensures.value)
          c.seat.invariant.role c.requires.open,
      c.in-Ok.ensures.ok.0,
    ) c.in-Ok.ensures.ok.1

pub give_up-requires-clause-gives : goal.give_up-requires-clause-gives
give_up-requires-clause-gives g c =
    may_give_up _ _ _ _ _ (in_slot _ _ _ _ c.claim-word.ensures.taken c.slot_mut-state.ensures.value)
    (inr c.seat.invariant.role)
    c.in-Err.ensures.err.0

pub returns-in-Ok-clause-turn : goal.returns-in-Ok-clause-turn
returns-in-Ok-clause-turn g c = drain_spends _ _ _ _ _ _ _ c.seat.view_is
    (in_slot _ _ _ _ c.claim-word.ensures.taken c.slot_mut-state.ensures.value) _
    (Takes c.args.most c.in-Ok.answer) c.spend.ensures.spent c.spend.ensures.above

pub returns-in-Ok-clause-found : goal.returns-in-Ok-clause-found
returns-in-Ok-clause-found g c = take_found _ _ _ _ _ _ _ c.seat.view_is
    (in_slot _ _ _ _ c.claim-word.ensures.taken c.slot_mut-state.ensures.value) _ _ _
    c.seat.invariant.role c.stands.ensures.stands c.in-Ok.ensures.ok.0 _ c.in-Ok.ensures.ok.1 c.in-Ok.ensures.causes
    c.spend.ensures.spent

pub returns-in-Ok-clause-took : goal.returns-in-Ok-clause-took
returns-in-Ok-clause-took g c = take_took _ _ _ _ _ _ _ c.seat.view_is
    (in_slot _ _ _ _ c.claim-word.ensures.taken c.slot_mut-state.ensures.value) _ _ _
    c.seat.invariant.role c.requires.open c.stands.ensures.stands c.in-Ok.ensures.ok.0 c.spend.ensures.spent

pub returns-in-Ok-clause-broken : goal.returns-in-Ok-clause-broken
returns-in-Ok-clause-broken g c knows =
    ap Ok (take_broken_again _ _ _ c.claim-word.new.seat.me _ _ _ c.seat.view_is
    (in_slot _ _ _ _ c.claim-word.ensures.taken c.slot_mut-state.ensures.value) _ _
    c.in-Ok.ensures.ok.0 knows)

pub returns-in-Ok-clause-keeps : goal.returns-in-Ok-clause-keeps
returns-in-Ok-clause-keeps g c knows = take_keeps _ _ _ _ _ _ _ c.seat.view_is
    (in_slot _ _ _ _ c.claim-word.ensures.taken c.slot_mut-state.ensures.value) _ _
    c.spend.ensures.spent knows
