-- A clock in memory as its callers see it.
use Rattle.std.specs.Prelude.{ℕ, zero, suc, ◌≤◌, ◌-◌, ◌^◌, List, [], ◌∷◌, ◌++◌, Option, Some, None, length, min}
use Rattle.std.specs.Prelude.{Bool, false, get_or, nat_le, nat_lt, if◌then◌else◌}
use Rattle.live_relay.specs.Clocks.{ClockView}

-- each moment is at least the one before it, the first at least this one
abbrev pub NeverFall : ℕ → List ℕ → Type 0
NeverFall low [] = Unit {0}
NeverFall low (m ∷ moments) = (low ≤ m) × NeverFall m moments

-- its moments, how many calls there were, and at which of them, counted from 1, its user ends
pub record MemClockState : Type 0 where
  pub moments : List ℕ
  pub calls : ℕ
  pub ends : Option ℕ

-- The answer of a call, counted from 0: the moments in turn, and then the last one again and again.
abbrev pub answer_at : List ℕ → ℕ → ℕ
answer_at moments k = get_or moments (min k (length moments - 1)) 0

abbrev pub first_answers : List ℕ → ℕ → List ℕ
first_answers moments zero = []
first_answers moments (suc n) = first_answers moments n ++ answer_at moments n ∷ []

abbrev pub latest_of : List ℕ → ℕ → ℕ
latest_of moments zero = 0
latest_of moments (suc n) = answer_at moments n

-- the user has ended where the call at which that is was made
abbrev pub is_over : Option ℕ → ℕ → Bool
is_over None calls = false
is_over (Some call) calls = nat_le call calls

-- It tells its answers until its count of calls stands at the last value of a `u64`.
abbrev pub mem_clock_view : MemClockState → ClockView
mem_clock_view c = record {
  moments = if nat_lt c.calls (2 ^ 64 - 1) then Some (first_answers c.moments c.calls) else None;
  latest = latest_of c.moments c.calls;
  ended = is_over c.ends c.calls;
}
