use Rattle.record_proxy.specs.inside.Progress.{taken_of}
use Rattle.record_proxy.proofs.StandLemmas.{idle_stands}
use Rattle.record_proxy.proofs.ClientLemmas.{client_full}
use Rattle.record_proxy.proofs.taking.take_of_client.Goals as goal

pub returns-then-state-ge-MOST-clause-goes_on : goal.returns-then-state-ge-MOST-clause-goes_on
returns-then-state-ge-MOST-clause-goes_on g c =
    λ port start server before records p due none may.
    client_full start _ server p.whole (taken_of c.args.state.now) (idle_stands p due) none port before records
    p.records_are may c.if-state-ge-MOST.true
