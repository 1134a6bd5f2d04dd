-- What a relay makes of the datagrams that it received, by its turns: the rows, and how many were refused.
use Rattle.std.specs.Prelude.{◌≡◌, ℕ, ◌+◌, ◌≤◌, ◌&&◌, Bool, true, false, List, [], ◌∷◌, Option, Some, None, length}
use Rattle.std.specs.Prelude.{nat_le, refl, if◌then◌else◌}
use Rattle.std.specs.List.{flat_map}
use Rattle.std.proofs.lemmas.Bool.{leb-true}
use Rattle.packet_record.specs.declared.packet.Direction.{Direction}
use Rattle.packet_record.specs.declared.packet.Direction.TheVariants.{Up, Down}
use Rattle.packet_record.specs.declared.packet.Row.{Row}
use Rattle.live_relay.specs.declared.side.Side.{Side}
use Rattle.live_relay.specs.declared.side.Side.TheVariants.{Client, Server}
use Rattle.live_relay.specs.Wires.{Datagram}

-- A turn of a relay: the moment that the clock gave it, and what it received.
pub record Turn : Type 0 where
  pub moment : ℕ
  pub answer : Option Datagram

-- A datagram of 1 to 1,504 bytes, which is a packet, at the moment of its turn.
pub record Stamp : Type 0 where
  pub moment : ℕ
  pub side : Side
  pub bytes : List ℕ
  pub some : 1 ≤ length bytes
  pub most : length bytes ≤ 1504

abbrev pub stamp_within : (moment : ℕ) (side : Side) (bytes : List ℕ) (some most : Bool)
    → nat_le 1 (length bytes) ≡ some → nat_le (length bytes) 1504 ≡ most → List Stamp
stamp_within moment side bytes true true e f = record {
  moment = moment;
  side = side;
  bytes = bytes;
  some = leb-true 1 (length bytes) e;
  most = leb-true (length bytes) 1504 f;
} ∷ []
stamp_within moment side bytes true false e f = []
stamp_within moment side bytes false most e f = []

-- what a turn received, where that is a packet
abbrev pub stamped_at : ℕ → Option Datagram → List Stamp
stamped_at moment None = []
stamped_at moment (Some d) =
    stamp_within moment d.0 d.1 (nat_le 1 (length d.1)) (nat_le (length d.1) 1504) refl refl

-- the packets of these turns, in the order in which they were received
abbrev pub stamps_of : List Turn → List Stamp
stamps_of turns = flat_map (λ (t : Turn). stamped_at t.moment t.answer) turns

-- a datagram of no bytes, or of more than 1,504, is refused
abbrev pub refused_at : Option Datagram → ℕ
refused_at None = 0
refused_at (Some d) = if nat_le 1 (length d.1) && nat_le (length d.1) 1504 then 0 else 1

-- how many of what these turns received is refused
abbrev pub refused_of : List Turn → ℕ
refused_of [] = 0
refused_of (t ∷ turns) = refused_at t.answer + refused_of turns

-- what the client sends goes up, what the server sends goes down
abbrev pub direction_of : Side → Direction
direction_of Client = Up
direction_of Server = Down

abbrev pub row_of : ℕ → Stamp → Row
row_of id s = record {
  direction = direction_of s.side;
  timed = record {
    moment = s.moment;
    packet = record { id = id; size = length s.bytes; some = s.some; most = s.most };
  };
}

-- the rows of these packets, numbered from this one
abbrev pub rows_from : ℕ → List Stamp → List Row
rows_from id [] = []
rows_from id (s ∷ stamps) = row_of id s ∷ rows_from (id + 1) stamps

-- The rows of a relay, numbered from 1.
abbrev pub rows_of : List Turn → List Row
rows_of turns = rows_from 1 (stamps_of turns)
