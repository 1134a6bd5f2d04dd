use Rattle.std.proofs.Common.{◌≡◌, ◌≤◌, length, arith, ap, sym, subst, ◌∙◌}
use Prim.Native.Nat.{min}
use Rattle.trace_reader.specs.Orders.{AreRising}
use Rattle.trace_reader.specs.Opps.{opps, up_to}
use Rattle.trace_reader.proofs.OppsLaws.{opps_rising, length-opps_more, length-up_to-opps}
use Rattle.link_core.specs.views.Span.{Span, span_opps}
use Rattle.link_core.proofs.opportunities.Opportunities.count_to.Goals as goal

pub overflow_cast-result : goal.overflow_cast-result
overflow_cast-result c =
    let s = c.self.inside in
    let number = c.self.invariant.0 in
    let few = c.self.invariant.1 in
    let le : min c.args.moment s.horizon ≤ s.horizon = omega arith in
    let fewer = length-opps_more s.trace s.once (min c.args.moment s.horizon) s.horizon c.count_to.ensures.trace le in
    let count : c.count_to.result ≡ length (opps s.trace.opportunities s.once (min c.args.moment s.horizon)) =
    c.count_to.ensures.count ∙ ap (λ h. length (opps s.trace.opportunities s.once h)) c.min-until.ensures
    in
    omega arith

pub returns-clause-count : goal.returns-clause-count
returns-clause-count c =
    let s = c.self.inside in
    c.count_to.ensures.count
    ∙ ap (λ h. length (opps s.trace.opportunities s.once h)) c.min-until.ensures
    ∙ sym (length-up_to-opps s.trace s.once c.args.moment s.horizon c.count_to.ensures.trace)
    ∙ ap (λ (v : Span). length (up_to c.args.moment (span_opps v))) c.self.view_is

pub returns-clause-within : goal.returns-clause-within
returns-clause-within c =
    let s = c.self.inside in
    let le : min c.args.moment s.horizon ≤ s.horizon = omega arith in
    let fewer = length-opps_more s.trace s.once (min c.args.moment s.horizon) s.horizon c.count_to.ensures.trace le in
    let count : c.count_to.result ≡ length (opps s.trace.opportunities s.once (min c.args.moment s.horizon)) =
    c.count_to.ensures.count ∙ ap (λ h. length (opps s.trace.opportunities s.once h)) c.min-until.ensures
    in
    let all : length (opps s.trace.opportunities s.once s.horizon) ≡ length (span_opps c.args.self.now) =
    ap (λ (v : Span). length (span_opps v)) c.self.view_is in
    omega arith

pub returns-clause-order : goal.returns-clause-order
returns-clause-order c =
    let s = c.self.inside in
    subst (λ (v : Span). AreRising (span_opps v)) c.self.view_is
    (opps_rising s.trace s.once s.horizon c.count_to.ensures.trace)
