use Rattle.std.proofs.Common.{◌≡◌, length, arith, ap, sym}
use Rattle.trace_reader.specs.Opps.{opps}
use Rattle.trace_reader.proofs.CountLaws.{counted_place}
use Rattle.trace_reader.proofs.OrderLemmas.{length-up_to}
use Rattle.link_core.specs.views.Span.{Span, span_opps}
use Rattle.link_core.proofs.CountLemmas.{counted_end}
use Rattle.link_core.proofs.opportunities.Opportunities.due.Goals as goal

pub returns-then-j-self-clause-due : goal.returns-then-j-self-clause-due
returns-then-j-self-clause-due c =
    let s = c.self.inside in
    let number = c.self.invariant.0 in
    let all : length (opps s.trace.opportunities s.once s.horizon) ≡ length (span_opps c.args.self.now) =
    ap (λ (v : Span). length (span_opps v)) c.self.view_is in
    let some = length-up_to c.args.moment (span_opps c.args.self.now) in
    omega arith

pub returns-then-o-moment-clause-due : goal.returns-then-o-moment-clause-due
returns-then-o-moment-clause-due c =
    counted_end c.args.moment c.args.j (span_opps c.args.self.now) c.take-o.result c.take-o.ensures.order
    c.take-o.ensures.at c.if-o-moment.true

pub returns-clause-due : goal.returns-clause-due
returns-clause-due c =
    counted_place c.args.moment (span_opps c.args.self.now) c.args.j c.take-o.result c.take-o.ensures.order
    (sym c.take-o.ensures.at) c.if-o-moment.false
