use Rattle.std.proofs.Common.{◌<◌, ◌≤◌, Option, length, slice_get, IfSome, ap, sym, subst, ◌∙◌}
use Rattle.trace_reader.specs.declared.opportunity.Opportunity.{Opportunity}
use Rattle.trace_reader.specs.Opps.{entry, opps}
use Rattle.trace_reader.specs.Orders.{AreRising}
use Rattle.trace_reader.proofs.OppsLaws.{entry-opps, opps_rising}
use Rattle.link_core.specs.views.Span.{Span, span_opps}
use Rattle.link_core.proofs.OppsLemmas.{some_within}
use Rattle.link_core.proofs.opportunities.Opportunities.take.Goals as goal

pub opportunity-requires-clause-within : goal.opportunity-requires-clause-within
opportunity-requires-clause-within c =
    let s = c.self.inside in
    let j = c.args.j in
    let lt : j < length (opps s.trace.opportunities s.once s.horizon) = subst (λ (v : Span). j < length (span_opps v))
    (sym c.self.view_is) c.requires in
    some_within s.trace.opportunities s.once s.horizon 3600000 j (entry s.trace.opportunities j) c.self.invariant.2
    (entry-opps s.trace s.once s.horizon j c.len.ensures.trace lt)

pub returns-clause-at : goal.returns-clause-at
returns-clause-at c =
    let s = c.self.inside in
    let j = c.args.j in
    let lt : j < length (opps s.trace.opportunities s.once s.horizon) = subst (λ (v : Span). j < length (span_opps v))
    (sym c.self.view_is) c.requires in
    c.opportunity.ensures
    ∙ entry-opps s.trace s.once s.horizon j c.len.ensures.trace lt
    ∙ ap (λ (v : Span). slice_get (span_opps v) j) c.self.view_is

pub returns-clause-within : goal.returns-clause-within
returns-clause-within c =
    let s = c.self.inside in
    let j = c.args.j in
    let lt : j < length (opps s.trace.opportunities s.once s.horizon) = subst (λ (v : Span). j < length (span_opps v))
    (sym c.self.view_is) c.requires in
    let within : IfSome (entry s.trace.opportunities j) (λ o. o.moment ≤ 3600000) =
    some_within s.trace.opportunities s.once s.horizon 3600000 j (entry s.trace.opportunities j) c.self.invariant.2
    (entry-opps s.trace s.once s.horizon j c.len.ensures.trace lt)
    in
    subst (λ (found : Option Opportunity). IfSome found (λ o. o.moment ≤ 3600000)) (sym c.opportunity.ensures) within

pub returns-clause-order : goal.returns-clause-order
returns-clause-order c =
    let s = c.self.inside in
    subst (λ (v : Span). AreRising (span_opps v)) c.self.view_is
    (opps_rising s.trace s.once s.horizon c.len.ensures.trace)
