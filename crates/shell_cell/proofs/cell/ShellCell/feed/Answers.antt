use Rattle.std.proofs.Common.{inl, sym, ◌∙◌, refl}
use Rattle.shell_cell.proofs.Calls.{in_slot, may_feed, may_give_up}
use Rattle.shell_cell.proofs.Clauses.{feed_may, feed_spends, feed_feeds}
use Rattle.shell_cell.proofs.cell.ShellCell.feed.Goals as goal

pub give_up-requires-clause-gives : goal.give_up-requires-clause-gives
give_up-requires-clause-gives g c =
    may_give_up _ _ _ _ _ (in_slot _ _ _ _ c.claim-word.ensures.taken c.slot_mut-state.ensures.value)
    (inl c.seat.invariant.role) refl

pub spend-requires-clause-spends : goal.spend-requires-clause-spends
spend-requires-clause-spends g c =
    may_feed _ _ _ _ _ _ (in_slot _ _ _ _ c.claim-word.ensures.taken c.slot_mut-state.ensures.value)
    c.seat.invariant.role
    (feed_may _ _ _ c.claim-word.new.seat.me _ _ _ c.seat.view_is
    (in_slot _ _ _ _ c.claim-word.ensures.taken c.slot_mut-state.ensures.value) c.args.item
    c.seat.invariant.role (sym c.is_broken.ensures ∙ c.if-is_broken.false) c.requires.follows c.requires.within)
    c.in-Ok.ensures.ok

pub give_up-requires-in-Err-clause-gives : goal.give_up-requires-in-Err-clause-gives
give_up-requires-in-Err-clause-gives g c =
    may_give_up _ _ _ _ _ (in_slot _ _ _ _ c.claim-word.ensures.taken c.slot_mut-state.ensures.value)
    (inl c.seat.invariant.role) c.in-Err.ensures.err.0

pub returns-in-Ok-clause-turn : goal.returns-in-Ok-clause-turn
returns-in-Ok-clause-turn g c =
    inl (feed_spends _ _ _ _ _ _ _ c.seat.view_is
    (in_slot _ _ _ _ c.claim-word.ensures.taken c.slot_mut-state.ensures.value) _ c.args.item
    (sym c.is_broken.ensures
    ∙ c.if-is_broken.false) c.spend.ensures.spent c.spend.ensures.above)

pub returns-in-Ok-clause-fed : goal.returns-in-Ok-clause-fed
returns-in-Ok-clause-fed g c = feed_feeds _ _ _ _ _ _ _ c.seat.view_is
    (in_slot _ _ _ _ c.claim-word.ensures.taken c.slot_mut-state.ensures.value)
    c.spend.new.seat.table_id c.args.item (sym c.is_broken.ensures ∙ c.if-is_broken.false) c.spend.ensures.spent
