-- What is said of the moments of a list of packets.
use Rattle.std.specs.Prelude.{ℕ, ◌≤◌, List, [], ◌∷◌}
use Rattle.packet_record.specs.declared.packet.Timed.{Timed}

-- each is at this moment or later
abbrev pub AreFrom : ℕ → List Timed → Type 0
AreFrom m [] = Unit {0}
AreFrom m (t ∷ ts) = (m ≤ t.moment) × AreFrom m ts

-- each is at this moment or earlier
abbrev pub AreUpTo : ℕ → List Timed → Type 0
AreUpTo m [] = Unit {0}
AreUpTo m (t ∷ ts) = (t.moment ≤ m) × AreUpTo m ts

-- none is before the one before it
abbrev pub Rise : List Timed → Type 0
Rise [] = Unit {0}
Rise (t ∷ ts) = AreFrom t.moment ts × Rise ts
