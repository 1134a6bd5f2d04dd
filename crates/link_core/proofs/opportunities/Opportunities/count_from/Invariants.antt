use Rattle.std.proofs.Common.{◌≡◌, ◌≤◌, length}
use Rattle.trace_reader.specs.Opps.{up_to}
use Rattle.link_core.specs.views.Span.{span_opps}
use Rattle.link_core.proofs.opportunities.Opportunities.count_from.Given as goal

abbrev pub invariant-loop-count : goal.invariant-loop-count
invariant-loop-count l = record {
  same : l.self ≡ l.fn.self;
  so_far : l.count ≤ length (up_to l.moment (span_opps l.self));
}
