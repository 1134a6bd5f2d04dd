use Rattle.std.proofs.Common.{sym, subst}
use Rattle.replay_server.specs.Links.{IsServed}
use Rattle.replay_server.proofs.StepLemmas.{refusal_spilt, refusal_left, refusal_given}
use Rattle.replay_server.proofs.steps.refuse.Goals as goal

pub returns-in-Err-clause-ends : goal.returns-in-Err-clause-ends
returns-in-Err-clause-ends g c =
    λ store site start replies rest count x open_ones whole hopeless. subst (IsServed store site start _)
    (sym c.refused.ensures)
    (refusal_spilt start _ replies rest c.args.state.now.gathered c.refusal.result.now count c.refusal.ensures x
    open_ones whole hopeless _ c.in-Err.ensures.err c.in-Err.error)

pub returns-in-Err-flush-clause-ends : goal.returns-in-Err-flush-clause-ends
returns-in-Err-flush-clause-ends g c =
    λ store site start replies rest count x open_ones whole hopeless. subst (IsServed store site start _)
    (sym c.refused-in-Err-flush.ensures)
    (refusal_left start _ replies rest c.args.state.now.gathered c.refusal.result.now count c.refusal.ensures x
    open_ones whole hopeless _ _ c.gather.new.gathered
    c.in_default.ensures.ok c.in-Err-flush.ensures.err c.in-Err-flush.error)

pub returns-clause-ends : goal.returns-clause-ends
returns-clause-ends g c =
    λ store site start replies rest count x open_ones whole hopeless.
    refusal_given start _ replies rest c.args.state.now.gathered c.refusal.result.now count c.refusal.ensures x
    open_ones whole hopeless _ _ c.gather.new.gathered
    c.flush.new.gathered c.in_default.ensures.ok c.in_default-flush.ensures.pours c.in_default-flush.ensures.ok
