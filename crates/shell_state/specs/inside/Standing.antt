-- Beside Standing, for proofs alone: what is true of every state.
use Rattle.std.specs.Prelude.{◌+◌, ◌-◌, ℕ, length}
use Rattle.shell_state.specs.Shells.{whole_out}
use Rattle.shell_state.specs.States.{State, opps_of}

-- what is left to be taken where nothing more is fed: each answer but the end lowers it
abbrev pub left_of : State → ℕ
left_of s = (length (opps_of s) - s.burnt) + (s.horizon + 1 - s.taken.bound) +
    (length (whole_out s.spec s.horizon s.fed.packets) - length s.taken.packets)
