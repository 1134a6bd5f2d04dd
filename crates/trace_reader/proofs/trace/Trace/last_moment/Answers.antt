use Rattle.std.proofs.Common.{◌<◌, length, ap, ◌∙◌, rules}
use Rattle.trace_reader.specs.declared.opportunity.Opportunity.{Opportunity}
use Rattle.trace_reader.specs.Opps.{last_moment}
use Rattle.trace_reader.proofs.OrderLemmas.{last_at}
use Rattle.trace_reader.proofs.trace.Trace.last_moment.Goals as goal

pub returns-clause-last : goal.returns-clause-last
returns-clause-last c =
    let list = c.list-list.result.now in
    let some : 0 < length list = search rules in
    c.moment.ensures
    ∙ ap (λ (o : Opportunity). o.moment) c.index-list-list.is
    ∙ last_at list c.index-list-list.result some
    ∙ ap last_moment c.list-list.ensures.list
