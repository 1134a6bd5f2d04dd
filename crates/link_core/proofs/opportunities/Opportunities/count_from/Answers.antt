use Rattle.std.proofs.Common.{◌≡◌, length, arith, ap, sym, ◌∙◌}
use Rattle.trace_reader.specs.Opps.{up_to, opps}
use Rattle.trace_reader.proofs.OrderLemmas.{length-up_to}
use Rattle.trace_reader.proofs.CountLaws.{counted_place}
use Rattle.link_core.specs.views.Span.{Span, span_opps}
use Rattle.link_core.proofs.CountLemmas.{counted_end}
use Rattle.link_core.proofs.opportunities.Opportunities.count_from.Goals as goal

pub overflow_add-j : goal.overflow_add-j
overflow_add-j c =
    let s = c.self.inside in
    let number = c.self.invariant.0 in
    let few = c.self.invariant.1 in
    let all : length (opps s.trace.opportunities s.once s.horizon) ≡ length (span_opps c.args.self.now) =
    ap (λ (v : Span). length (span_opps v)) c.self.view_is in
    let some = length-up_to c.args.moment (span_opps c.args.self.now) in
    omega arith

pub returns-then-take-moment-clause-count : goal.returns-then-take-moment-clause-count
returns-then-take-moment-clause-count c =
    let opps = span_opps c.loop-count.self in
    let m = c.args.moment in
    let so_far = c.loop-count.invariant.so_far in
    let late = c.if-take-moment.true in
    let end = counted_end m c.loop-count.count opps c.take.result c.take.ensures.order c.take.ensures.at late in
    let same : length (up_to m opps) ≡ length (up_to m (span_opps c.args.self.now)) =
    ap (λ (v : Span). length (up_to m (span_opps v))) c.loop-count.invariant.same in
    omega arith

pub loop-count-preserved : goal.loop-count-preserved
loop-count-preserved c =
    let opps = span_opps c.loop-count.self in
    let m = c.args.moment in
    let in_time = c.if-take-moment.false in
    let more = counted_place m opps c.loop-count.count c.take.result c.take.ensures.order (sym c.take.ensures.at)
    in_time in
    let same : length (up_to m (span_opps c.take.new.self)) ≡ length (up_to m opps) =
    ap (λ (v : Span). length (up_to m (span_opps v))) c.take.ensures.same in
    record {
      same = c.take.ensures.same ∙ c.loop-count.invariant.same;
      so_far = omega arith;
    }
