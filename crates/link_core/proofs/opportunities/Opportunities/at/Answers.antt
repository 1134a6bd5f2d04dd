use Rattle.std.proofs.Common.{◌<◌, length, slice_get, arith, ap, sym, ◌∙◌}
use Rattle.trace_reader.specs.Opps.{opps, opportunity_at}
use Rattle.trace_reader.proofs.OppsLaws.{slice_get-opps}
use Rattle.link_core.specs.views.Span.{Span, span_opps}
use Rattle.link_core.proofs.OppsLemmas.{some_within}
use Rattle.link_core.proofs.opportunities.Opportunities.at.Goals as goal

pub returns-clause-at : goal.returns-clause-at
returns-clause-at c =
    let s = c.self.inside in
    let number = c.self.invariant.0 in
    let lt : c.args.j < length (opps s.trace.opportunities s.once s.horizon) = omega arith in
    c.opportunity.ensures.value
    ∙ ap (opportunity_at s.trace.opportunities s.once) c.from.ensures
    ∙ sym (slice_get-opps s.trace s.once s.horizon c.args.j c.opportunity.ensures.trace lt)
    ∙ ap (λ (v : Span). slice_get (span_opps v) c.args.j) c.self.view_is

pub returns-clause-within : goal.returns-clause-within
returns-clause-within c =
    let s = c.self.inside in
    let number = c.self.invariant.0 in
    let most = c.self.invariant.2 in
    let lt : c.args.j < length (opps s.trace.opportunities s.once s.horizon) = omega arith in
    some_within s.trace.opportunities s.once s.horizon 3600000 c.args.j c.opportunity.result most
    (c.opportunity.ensures.value
    ∙ ap (opportunity_at s.trace.opportunities s.once) c.from.ensures
    ∙ sym (slice_get-opps s.trace s.once s.horizon c.args.j c.opportunity.ensures.trace lt))
