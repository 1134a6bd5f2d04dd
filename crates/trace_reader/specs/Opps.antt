-- The opportunities that a trace gives up to a horizon (mm-link: the trace begins again at its last moment).
use Rattle.std.specs.Prelude.{ℕ, zero, suc, ◌+◌, ◌*◌, ◌/◌, ◌%◌, ◌++◌, ◌&&◌, Bool, List, [], ◌∷◌, Option, None, length}
use Rattle.std.specs.Prelude.{filter, nat_le, slice_get, option_to_list, if◌then◌else◌}
use Rattle.std.specs.Option.{option_map}
use Rattle.trace_reader.specs.declared.opportunity.Opportunity.{Opportunity}

-- those at this moment or earlier
abbrev pub up_to : ℕ → List Opportunity → List Opportunity
up_to moment opps = filter (λ o. nat_le o.moment moment) opps

-- the moment of the last one, at which the trace begins again
abbrev pub last_moment : List Opportunity → ℕ
last_moment [] = 0
last_moment (o ∷ []) = o.moment
last_moment (o ∷ p ∷ ps) = last_moment (p ∷ ps)

-- an opportunity of the same bytes, `by` milliseconds later
abbrev pub later : ℕ → Opportunity → Opportunity
later by o = record o { moment = o.moment + by }

-- opportunity number j, counted from 0: that of the trace at j mod n, after j div n laps
abbrev pub entry : List Opportunity → ℕ → Option Opportunity
entry trace j = option_map (later (j / length trace * last_moment trace)) (slice_get trace (j % length trace))

-- the same; where the trace is played once, there is none past its list
abbrev pub opportunity_at : List Opportunity → Bool → ℕ → Option Opportunity
opportunity_at trace once j = if once && nat_le (length trace) j then None else entry trace j

-- the opportunities with the numbers below k
unfoldable pub entries : List Opportunity → ℕ → List Opportunity
entries trace zero = []
entries trace (suc k) = entries trace k ++ option_to_list (entry trace k)

-- a number above those of all opportunities up to the horizon
abbrev pub enough : List Opportunity → Bool → ℕ → ℕ
enough trace once horizon = if once then length trace else (horizon / last_moment trace + 1) * length trace

-- the opportunities with the numbers 0, 1, 2 and on, as far as their moments are up to the horizon
unfoldable pub opps : List Opportunity → Bool → ℕ → List Opportunity
opps trace once horizon = up_to horizon (entries trace (enough trace once horizon))
