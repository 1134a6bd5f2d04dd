use Rattle.std.proofs.Common.{sym, subst, rules}
use Rattle.replay_server.specs.Links.{IsServed}
use Rattle.replay_server.proofs.StepLemmas.{flush_spilt, flushed_on, is_full}
use Rattle.replay_server.proofs.steps.take_more.Goals as goal

pub returns-in-Err-clause-goes_on : goal.returns-in-Err-clause-goes_on
returns-in-Err-clause-goes_on g c =
    λ store site start p whole may. subst (IsServed store site start _) (sym c.refused.ensures)
    (flush_spilt start _ c.args.state.now p _ c.in-Err.ensures.err c.in-Err.error)

pub returns-then-state-ge-MOST-clause-goes_on : goal.returns-then-state-ge-MOST-clause-goes_on
returns-then-state-ge-MOST-clause-goes_on g c =
    λ store site start p whole may.
    is_full start _ _ (flushed_on start _ c.args.state.now p _ c.flush.new.gathered c.args.state.now.reads
    c.in_default.ensures.pours) c.in_default.ensures.ok whole may
    c.if-state-ge-MOST.true

pub returns-clause-goes_on : goal.returns-clause-goes_on
returns-clause-goes_on g c =
    λ store site start p whole may.
    c.read_more.ensures.goes_on store site start
    (flushed_on start _ c.args.state.now p _ c.flush.new.gathered _ c.in_default.ensures.pours)
    c.in_default.ensures.ok whole may

pub read_more-requires-clause-few : goal.read_more-requires-clause-few
read_more-requires-clause-few g c = search rules
