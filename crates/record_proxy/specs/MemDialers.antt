-- A dialer in memory as its callers see it.
use Rattle.std.specs.Prelude.{◌+◌, ℕ, Some}
use Rattle.mm_base.specs.MemLink.{MemLinkState}
use Rattle.mm_base.specs.MemPort.{MemPortState}
use Rattle.record_proxy.specs.Dialers.{DialerView}
use Rattle.record_proxy.specs.declared.ports_asked.PortsAsked.{PortsAsked}

-- at which ports it was asked, the links as a port in memory gives them, and how often one was dialed where none was
-- left
pub record MemDialerState : Type 0 where
  pub asked : PortsAsked
  pub links : MemPortState
  pub missing : ℕ

-- It tells its finished links, and counts a fault where none is left.
abbrev pub mem_dialer_view : MemDialerState → DialerView MemLinkState
mem_dialer_view d = record {
  asked = d.asked;
  finished = Some d.links.finished;
  dialed = d.links.accepted;
  faults = d.links.faults + d.missing;
}
