-- For proofs alone: a state as its callers see it.
use Rattle.shell_state.specs.declared.state.ShellState.TheInside.{Inside}
use Rattle.shell_state.specs.inside.Fed.{IsWhole}

pub record IsShellState (s : Inside) : Type 0 where
  pub whole : IsWhole s.core s.fed s.taken s.broken
