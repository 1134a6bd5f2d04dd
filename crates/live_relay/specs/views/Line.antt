-- A line as contracts see it, by the states of its shells.
use Rattle.live_relay.specs.Lines.{LineParts}
use Rattle.live_relay.specs.views.Meeting.{fed_of, last_taken, lost_of, specs_of}
use Rattle.live_relay.specs.declared.line.Line.TheInside.{Inside}

-- What the shells do, the horizon, what the first shell was fed, and the packets that were taken from the last.
abbrev pub line_view : Inside → LineParts
line_view l = record {
  specs = specs_of l.states.items;
  horizon = l.horizon;
  fed = fed_of l.states.items;
  lost = lost_of l.states.items;
  departed = last_taken (fed_of l.states.items).packets l.states.items;
}
