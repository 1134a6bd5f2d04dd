-- At which ports a wire was asked to open.
use Rattle.std.specs.Prelude.{ℕ, Some, None, Result, Ok, Err}
use Rattle.mm_base.specs.Counts.{one_more}
use Rattle.mm_base.specs.declared.errors.EndError.{EndError}
use Rattle.live_relay.specs.declared.opened.Opened.{Opened}

-- it was never asked
abbrev pub never : Opened
never = record { times = 0; last = None; current = None }

-- it was asked once more, at these ports, and is open there
abbrev pub opened_at : ℕ → ℕ → Opened → Opened
opened_at listen to opened =
    record { times = one_more opened.times; last = Some (listen, to); current = Some (listen, to) }

-- it was asked once more, at these ports, and refused
abbrev pub refused_at : ℕ → ℕ → Opened → Opened
refused_at listen to opened =
    record { times = one_more opened.times; last = Some (listen, to); current = opened.current }

-- what a call of `open` at these ports leaves
abbrev pub after_open : ℕ → ℕ → Result Unit EndError → Opened → Opened
after_open listen to (Ok done) opened = opened_at listen to opened
after_open listen to (Err error) opened = refused_at listen to opened
