-- A link that goes over all its arrivals, and what its log is still to get.
use Rattle.std.specs.Prelude.{ℕ, ◌++◌, List, length, take, drop}
use Rattle.packet_record.specs.declared.packet.Timed.{Timed}
use Rattle.packet_queue.specs.declared.spec.QueueSpec.{QueueSpec}
use Rattle.shell_log.specs.declared.entry.Entry.{Entry}
use Rattle.trace_reader.specs.declared.opportunity.Opportunity.{Opportunity}
use Rattle.link_core.specs.declared.parts.Parts.{Parts}
use Rattle.link_core.specs.Links.{link_log}
use Rattle.link_core.specs.views.Span.{span_opps}

-- what the log still gets where b opportunities are burnt, up to the first `last` of them
abbrev pub rest_from : QueueSpec → List Opportunity → ℕ → ℕ → List Timed → List Timed → List Entry
rest_from q os last b come coming =
    drop (length (link_log q (take b os) come)) (link_log q (take last os) (come ++ coming))

abbrev pub rest_of : ℕ → Parts → List Entry
rest_of last c = rest_from c.buffer.queue.spec (span_opps c.opportunities) last c.burnt c.arrived.come c.arrived.coming
