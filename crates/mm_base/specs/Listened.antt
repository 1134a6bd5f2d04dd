-- What a port was asked to listen at.
use Rattle.std.specs.Prelude.{ℕ, Some, None, Result, Ok, Err}
use Rattle.mm_base.specs.Counts.{one_more}
use Rattle.mm_base.specs.declared.errors.EndError.{EndError}
use Rattle.mm_base.specs.declared.listened.Listened.{Listened}

-- it was never asked
abbrev pub never : Listened
never = record { times = 0; last = None; listening = None }

-- it was asked once more, at this number, and listens there
abbrev pub listened_at : ℕ → Listened → Listened
listened_at number listened =
    record { times = one_more listened.times; last = Some number; listening = Some number }

-- it was asked once more, at this number, and refused
abbrev pub refused_at : ℕ → Listened → Listened
refused_at number listened =
    record { times = one_more listened.times; last = Some number; listening = listened.listening }

-- what a call of `listen` at this number leaves
abbrev pub after_listen : ℕ → Result Unit EndError → Listened → Listened
after_listen number (Ok done) listened = listened_at number listened
after_listen number (Err error) listened = refused_at number listened
