-- A link direction as its callers see it, and what follows from that.
use Rattle.std.specs.Prelude.{ℕ, Bool, List}
use Rattle.trace_reader.specs.declared.opportunity.Opportunity.{Opportunity}
use Rattle.trace_reader.specs.Opps.{opps}
use Rattle.trace_reader.specs.Traces.{TraceView}

-- a trace, played once or again and again, up to a horizon
pub record Span : Type 0 where
  pub trace : TraceView
  pub once : Bool
  pub horizon : ℕ

abbrev pub span_opps : Span → List Opportunity
span_opps s = opps s.trace.opportunities s.once s.horizon
