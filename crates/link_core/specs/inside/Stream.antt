-- Beside Stream, for proofs alone: the kept packets of a link as a stream of bytes: what has gone after a number of
-- opportunities.
use Rattle.std.specs.Prelude.{ℕ, ◌-◌, ◌&&◌, List, [], ◌∷◌, nat_le, nat_lt, if◌then◌else◌}
use Rattle.packet_record.specs.declared.packet.Timed.{Timed}

-- the packets whose every byte is among the first n
abbrev pub carried : ℕ → List Timed → List Timed
carried n [] = []
carried n (t ∷ ts) = if nat_le t.packet.size n then t ∷ carried (n - t.packet.size) ts else []

-- the others
abbrev pub rest : ℕ → List Timed → List Timed
rest n [] = []
rest n (t ∷ ts) = if nat_le t.packet.size n then rest (n - t.packet.size) ts else t ∷ ts

-- how many of the first n bytes are of the first of these others
abbrev pub begun : ℕ → List Timed → ℕ
begun n [] = 0
begun n (t ∷ ts) = if nat_le t.packet.size n then begun (n - t.packet.size) ts else n

-- the packets whose last byte is after the first low bytes and among the first high
abbrev pub ending : ℕ → ℕ → List Timed → List Timed
ending low high [] = []
ending low high (t ∷ ts) =
    if nat_lt low t.packet.size && nat_le t.packet.size high
    then t ∷ ending (low - t.packet.size) (high - t.packet.size) ts
    else ending (low - t.packet.size) (high - t.packet.size) ts
