-- A state by its parts.
use Rattle.std.specs.Prelude.{Bool, List, take}
use Rattle.packet_record.specs.declared.packet.Timed.{Timed}
use Rattle.packet_record.specs.declared.reach.Reach.{Reach}
use Rattle.packet_record.specs.views.Flow.{stream_to}
use Rattle.shell_state.specs.Shells.{out}
use Rattle.shell_state.specs.CoreParts.{CorePart}
use Rattle.shell_state.specs.declared.front.Front.{Front}
use Rattle.shell_state.specs.States.{State}

abbrev pub departed_of : CorePart → List Timed
departed_of core = out core.spec core.horizon core.burnt core.arrivals

-- the packets that were fed are the core's arrivals, and those that were taken are the front of its departures
abbrev pub state_of : CorePart → Reach → Front → Bool → State
state_of core fed taken broken = record {
  spec = core.spec;
  horizon = core.horizon;
  fed = stream_to fed core.arrivals;
  taken = stream_to taken.reach (take taken.count (departed_of core));
  burnt = core.burnt;
  broken = broken;
}
