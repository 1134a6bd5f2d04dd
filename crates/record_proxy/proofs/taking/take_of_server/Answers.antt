use Rattle.record_proxy.specs.inside.Progress.{taken_of}
use Rattle.record_proxy.proofs.TextLemmas.{begun}
use Rattle.record_proxy.proofs.StandLemmas.{due_stands}
use Rattle.record_proxy.proofs.ServerLemmas.{server_left, server_full}
use Rattle.record_proxy.proofs.taking.take_of_server.Goals as goal

pub returns-then-state-clause-goes_on : goal.returns-then-state-clause-goes_on
returns-then-state-clause-goes_on g c =
    λ port start client before records m p due needs.
    server_left start client _ p.whole (begun m p.interim) (taken_of c.args.state.now) (due_stands p m due) port before
    records p.records_are needs c.if-state.true

pub returns-then-state-ge-MOST-clause-goes_on : goal.returns-then-state-ge-MOST-clause-goes_on
returns-then-state-ge-MOST-clause-goes_on g c =
    λ port start client before records m p due needs.
    server_full start client _ p.whole (begun m p.interim) (taken_of c.args.state.now) (due_stands p m due) port before
    records p.records_are needs c.if-state.false c.if-state-ge-MOST.true
