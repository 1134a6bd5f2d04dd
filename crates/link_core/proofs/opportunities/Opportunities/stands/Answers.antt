use Rattle.std.proofs.Common.{subst}
use Rattle.trace_reader.specs.Orders.{AreRising}
use Rattle.trace_reader.proofs.OppsLaws.{opps_rising}
use Rattle.link_core.specs.views.Span.{Span, span_opps}
use Rattle.link_core.proofs.opportunities.Opportunities.stands.Goals as goal

pub returns-clause-order : goal.returns-clause-order
returns-clause-order c =
    let s = c.self.inside in
    subst (λ (v : Span). AreRising (span_opps v)) c.self.view_is
    (opps_rising s.trace s.once s.horizon c.len.ensures.trace)
