-- Which entries a log may have, and in which order.
use Rattle.std.specs.Prelude.{ℕ, ◌≤◌, List, [], ◌∷◌}
use Rattle.shell_log.specs.declared.entry.Entry.{Entry}
use Rattle.shell_log.specs.declared.entry.Entry.TheVariants.{Arrival, Opportunity, Departure, Drop}

abbrev pub moment_of : Entry → ℕ
moment_of (Arrival moment size) = moment
moment_of (Opportunity moment bytes) = moment
moment_of (Departure moment size delay) = moment
moment_of (Drop moment packets bytes) = moment

-- a number of at most ten digits, as all numbers of a log are
abbrev pub IsShort : ℕ → Type 0
IsShort n = n ≤ 9999999999

-- the ranges of an entry's numbers
abbrev pub IsEntry : Entry → Type 0
IsEntry (Arrival moment size) = IsShort moment × (1 ≤ size) × (size ≤ 1504)
IsEntry (Opportunity moment bytes) = IsShort moment × (1 ≤ bytes) × (bytes ≤ 1000000)
IsEntry (Departure moment size delay) = IsShort moment × (1 ≤ size) × (size ≤ 1504) × (delay ≤ moment)
IsEntry (Drop moment packets bytes) = IsShort moment × (1 ≤ packets) × IsShort packets × (1 ≤ bytes) × IsShort bytes

-- no entry is after this moment
abbrev pub AreUpTo : ℕ → List Entry → Type 0
AreUpTo moment [] = Unit {0}
AreUpTo moment (e ∷ es) = (moment_of e ≤ moment) × AreUpTo moment es

-- no entry is before this moment
abbrev pub AreFrom : ℕ → List Entry → Type 0
AreFrom moment [] = Unit {0}
AreFrom moment (e ∷ es) = (moment ≤ moment_of e) × AreFrom moment es

-- entries whose moments never decrease
abbrev pub IsLog : List Entry → Type 0
IsLog [] = Unit {0}
IsLog (e ∷ es) = IsEntry e × AreFrom (moment_of e) es × IsLog es
