-- A link direction as its callers see it, and what follows from that.
use Rattle.std.specs.Prelude.{ℕ, Bool, List, take}
use mathlib.Core.List.{IsPrefix}
use Rattle.packet_record.specs.declared.packet.Timed.{Timed}
use Rattle.packet_queue.specs.declared.spec.QueueSpec.{QueueSpec}
use Rattle.shell_log.specs.declared.entry.Entry.{Entry}
use Rattle.trace_reader.specs.declared.opportunity.Opportunity.{Opportunity}
use Rattle.trace_reader.specs.Opps.{opps}
use Rattle.trace_reader.specs.Traces.{TraceView}
use Rattle.link_core.specs.Links.{link_out, link_lost, link_log, link_inside}

pub record Link : Type 0 where
  pub trace : TraceView
  pub once : Bool
  pub queue : QueueSpec
  pub horizon : ℕ
  pub burnt : ℕ
  pub arrivals : List Timed

-- its opportunities up to the horizon, and those that are burnt
abbrev pub opps_of : Link → List Opportunity
opps_of c = opps c.trace.opportunities c.once c.horizon

abbrev pub burnt_opps : Link → List Opportunity
burnt_opps c = take c.burnt (opps_of c)

abbrev pub out_of : Link → List Timed
out_of c = link_out c.queue (burnt_opps c) c.arrivals

abbrev pub lost_of : Link → List Timed
lost_of c = link_lost c.queue (burnt_opps c) c.arrivals

abbrev pub log_of : Link → List Entry
log_of c = link_log c.queue (burnt_opps c) c.arrivals

abbrev pub inside_of : Link → List Timed
inside_of c = link_inside c.queue (burnt_opps c) c.arrivals

-- departures, losses and log of the first are those with which the second's begin
pub record OnlyGoesOn (old new : Link) : Type 0 where
  pub out : IsPrefix (out_of old) (out_of new)
  pub lost : IsPrefix (lost_of old) (lost_of new)
  pub log : IsPrefix (log_of old) (log_of new)
