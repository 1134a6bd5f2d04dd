-- Lists of packets at their moments: their bytes, how many pass a test, and a packet at another moment.
use Rattle.std.specs.Prelude.{ℕ, ◌+◌, Bool, List, [], ◌∷◌, if◌then◌else◌}
use Rattle.packet_record.specs.declared.packet.Packet.{Packet}
use Rattle.packet_record.specs.declared.packet.Timed.{Timed}

-- the sum of the sizes
abbrev pub bytes : List Timed → ℕ
bytes [] = 0
bytes (t ∷ ts) = t.packet.size + bytes ts

-- the packet, at another moment
abbrev pub moved_to : ℕ → Timed → Timed
moved_to moment t = record { moment = moment; packet = t.packet }

-- how many packets of a list pass a test, such as one for a number
abbrev pub number : (Packet → Bool) → List Timed → ℕ
number test [] = 0
number test (t ∷ ts) = (if test t.packet then 1 else 0) + number test ts
