-- A state as its callers see it.
use Rattle.shell_state.specs.declared.state.ShellState.TheInside.{Inside}
use Rattle.shell_state.specs.States.{State}
use Rattle.shell_state.specs.views.Whole.{state_of}

abbrev pub state_view : Inside → State
state_view s = state_of s.core s.fed s.taken s.broken
