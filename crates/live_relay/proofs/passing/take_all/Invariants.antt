use Rattle.std.proofs.Common.{◌≡◌}
use Rattle.packet_record.specs.declared.item.FlowEnd.TheVariants.{Open}
use Rattle.shell_state.specs.Promises.{takes_left}
use Rattle.live_relay.specs.inside.Meeting.{Grows, IsSameShell}
use Rattle.live_relay.proofs.passing.take_all.Given as goal

abbrev pub invariant-takes : goal.invariant-takes
invariant-takes l = record {
  same : IsSameShell l.initial.state l.state;
  fed : l.state.fed ≡ l.initial.state.fed;
  grows : Grows l.initial.state.taken l.state.taken;
  going : l.state.taken.end ≡ Open;
}

abbrev pub decreases-takes : goal.decreases-takes
decreases-takes l = takes_left l.state.fed.packets l.state
