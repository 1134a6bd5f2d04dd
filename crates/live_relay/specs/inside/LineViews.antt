-- For proofs alone: what is true of every line.
use Rattle.std.specs.Prelude.{◌≤◌, length}
use Rattle.live_relay.specs.inside.Meeting.{Meet}
use Rattle.live_relay.specs.views.Meeting.{fed_of}
use Rattle.live_relay.specs.declared.line.Line.TheInside.{Inside}

-- There is at least one shell, and the shells' streams meet.
pub record IsLine (l : Inside) : Type 0 where
  pub some : 1 ≤ length l.states.items
  pub meet : Meet l.horizon (fed_of l.states.items) l.states.items
