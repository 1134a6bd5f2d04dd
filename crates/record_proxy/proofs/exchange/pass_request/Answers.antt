use Rattle.std.proofs.Common.{◌∙◌, [], Some, refl, ap, subst}
use Rattle.std.specs.Option.{option_map}
use Rattle.mm_base.specs.Link.{giving}
use Rattle.replay_server.specs.Giving.{Breaks}
use Rattle.record_proxy.specs.inside.Progress.{taken_of}
use Rattle.record_proxy.proofs.StandLemmas.{idle_stands, progress_due}
use Rattle.record_proxy.proofs.RequestLemmas.{passed_request, broken_request}
use Rattle.record_proxy.proofs.exchange.pass_request.Goals as goal

pub returns-in-Err-clause-goes_on : goal.returns-in-Err-clause-goes_on
returns-in-Err-clause-goes_on g c =
    λ port start client before records unread is due e p.
    broken_request start client _ p.whole (taken_of c.args.state.now) unread c.args.request is e (idle_stands p due)
    port before records p.records_are _ (subst (Breaks _ _) c.as_slice.ensures c.in-Err.ensures.err) c.in-Err.error
    c.refused.result c.refused.ensures

pub returns-clause-goes_on : goal.returns-clause-goes_on
returns-clause-goes_on g c =
    let state = c.args.state.now in
    let told = (g.L.Link.view c.args.server.now).told in
    λ port start client before records unread is due e p.
    progress_due (record state { due = Some c.args.request }) p.whole p.records_are c.args.request [] refl
    (passed_request start client _ p.whole (taken_of state) unread c.args.request is e (idle_stands p due) _
    (c.in_default.ensures.ok ∙ ap (λ l. option_map (giving l) told) c.as_slice.ensures))
