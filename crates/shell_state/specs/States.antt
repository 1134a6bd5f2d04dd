-- A shell's direction between what was fed and what was taken.
use Rattle.std.specs.Prelude.{ℕ, Bool, false, List, drop, length}
use Rattle.packet_record.specs.declared.packet.Timed.{Timed}
use Rattle.packet_record.specs.Streams.{Stream, no_items}
use Rattle.trace_reader.specs.declared.opportunity.Opportunity.{Opportunity}
use Rattle.shell_state.specs.declared.spec.DirSpec.{DirSpec}
use Rattle.shell_state.specs.Shells.{opportunities, out, floor}

pub record State : Type 0 where
  pub spec : DirSpec
  pub horizon : ℕ
  pub fed : Stream
  pub taken : Stream
  pub burnt : ℕ
  pub broken : Bool

abbrev pub new_state : DirSpec → ℕ → State
new_state c horizon = record {
  spec = c;
  horizon = horizon;
  fed = no_items;
  taken = no_items;
  burnt = 0;
  broken = false;
}

abbrev pub opps_of : State → List Opportunity
opps_of s = opportunities s.spec s.horizon

abbrev pub departures : State → List Timed
departures s = out s.spec s.horizon s.burnt s.fed.packets

-- the departures that were not taken
abbrev pub ready : State → List Timed
ready s = drop (length s.taken.packets) (departures s)

abbrev pub floor_of : State → ℕ
floor_of s = floor s.spec s.horizon s.burnt s.fed.bound
