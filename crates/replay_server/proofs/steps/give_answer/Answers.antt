use Rattle.std.proofs.Common.{sym, subst, rules, ◌≡◌, false, true}
use Rattle.replay_server.specs.Links.{IsServed}
use Rattle.replay_server.proofs.StepLemmas.{answer_spilt, answer_open, answer_left, answer_closes}
use Rattle.replay_server.proofs.steps.give_answer.Goals as goal

pub returns-in-Err-clause-goes_on : goal.returns-in-Err-clause-goes_on
returns-in-Err-clause-goes_on g c =
    λ store site start unread r is answer e p. subst (IsServed store site start _) (sym c.refused.ensures)
    (answer_spilt start _ c.args.state.now unread r c.args.bytes.now c.args.closes is answer e p _ c.in-Err.ensures.err
    c.in-Err.error)

pub returns-then-not-closes-clause-goes_on : goal.returns-then-not-closes-clause-goes_on
returns-then-not-closes-clause-goes_on g c =
    let is_open : c.args.closes ≡ false = search rules in
    λ store site start unread r is answer e p.
    answer_open start _ c.args.state.now unread r c.args.bytes.now c.args.closes is answer e p _ c.gather.new.gathered
    c.in_default.ensures.ok is_open

pub returns-in-Err-flush-clause-goes_on : goal.returns-in-Err-flush-clause-goes_on
returns-in-Err-flush-clause-goes_on g c =
    λ store site start unread r is answer e p. subst (IsServed store site start _) (sym c.refused-in-Err-flush.ensures)
    (answer_left start _ c.args.state.now unread r c.args.bytes.now c.args.closes is answer e p _ _
    c.gather.new.gathered c.in_default.ensures.ok
    c.in-Err-flush.ensures.err c.in-Err-flush.error)

pub returns-clause-goes_on : goal.returns-clause-goes_on
returns-clause-goes_on g c =
    let closing : c.args.closes ≡ true = search rules in
    λ store site start unread r is answer e p.
    answer_closes start _ c.args.state.now unread r c.args.bytes.now c.args.closes is answer e p _ _
    c.gather.new.gathered c.flush.new.gathered c.in_default.ensures.ok
    c.in_default-flush.ensures.pours c.in_default-flush.ensures.ok closing
