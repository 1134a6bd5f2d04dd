-- The bytes that a relay keeps while their packets may still leave.
use Rattle.std.specs.Prelude.{◌≡◌, ◌<◌, ℕ, ◌-◌, List, [], Bool, Option, Some, length, get_or, nat_eq}
use Rattle.std.specs.HashMap.{get}
use Rattle.packet_record.specs.declared.packet.Packet.{Packet}
use Rattle.live_relay.specs.declared.kept.Kept.{Kept}
use Rattle.live_relay.specs.declared.stamps.Stamps.{Stamps}

-- the bytes that are kept of the packet of this number
abbrev pub kept_at : Kept → ℕ → Option (List ℕ)
kept_at k n = get nat_eq k.pieces n

-- a packet of this number
abbrev pub has_number : ℕ → Packet → Bool
has_number n p = nat_eq p.id n

-- These are the bytes that were received as the packet of this number.
pub record IsPiece (all : List (List ℕ)) (n : ℕ) (bytes : List ℕ) : Type 0 where
  pub within : n - 1 < length all
  pub bytes_are : bytes ≡ get_or all (n - 1) []

abbrev pub Keeps : List (List ℕ) → Kept → Type 0
Keeps all k = (n : ℕ) (bytes : List ℕ) → kept_at k n ≡ Some bytes → IsPiece all n bytes

-- what is kept in both directions
pub record KeepsBoth (all : List (List ℕ)) (s : Stamps) : Type 0 where
  pub up : Keeps all s.up
  pub down : Keeps all s.down
