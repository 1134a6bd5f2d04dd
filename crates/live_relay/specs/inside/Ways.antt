-- One direction of a relay between its turns.
use Rattle.std.specs.Prelude.{◌≡◌, ◌≤◌, ℕ, ◌++◌, List, Option, Some, None, length, drop, map}
use Rattle.std.specs.Prelude.{option_to_list, if◌then◌else◌}
use Rattle.std.specs.Option.{option_map}
use Rattle.packet_record.specs.declared.item.Item.{Item}
use Rattle.packet_record.specs.declared.item.Item.TheVariants.{Packet, Mark}
use Rattle.packet_record.specs.declared.packet.Row.{Row}
use Rattle.packet_record.specs.declared.packet.Direction.{Direction}
use Rattle.packet_record.specs.declared.item.FlowEnd.TheVariants.{Open, Ended}
use Rattle.packet_record.specs.Rows.{entering, goes}
use Rattle.nest_spec.specs.Nests.{NestParts, directions_of}
use Rattle.live_relay.specs.Lines.{IsFront, IsSettled, up_to}
use Rattle.live_relay.specs.declared.side.Side.{Side}
use Rattle.live_relay.specs.declared.way.Way.{Way}
use Rattle.live_relay.specs.Due.{bytes_in}
use Rattle.live_relay.specs.Relays.{IsFrontOf}
use Rattle.live_relay.specs.Wires.{WireTold, sending_all}

-- no packet has this number of bytes
abbrev pub fits_not : ℕ → Type 0
fits_not size = 1 ≤ size → size ≤ 1504 → ⊥

-- what a direction is fed at a moment
abbrev pub item_in : Direction → ℕ → Option Row → Item
item_in d m None = Mark m
item_in d m (Some r) = if goes d r.direction then Packet r.timed else Mark m

-- a prefix of these was sent to a side
pub record StopsSending (side : Side) (pieces : List (List ℕ)) (old new : Option WireTold) : Type 0 where
  pub front : List (List ℕ)
  pub some : IsFrontOf front pieces
  pub told : new ≡ option_map (sending_all side front) old

-- nothing of what it is changed but what was fed
pub record KeepsWay (old new : Way) : Type 0 where
  pub specs : new.line.specs ≡ old.line.specs
  pub horizon : new.line.horizon ≡ old.line.horizon
  pub departed : IsFront old.line.departed new.line.departed
  pub sent : new.sent ≡ old.sent

-- A way was fed what goes there at this moment.
pub record GoesOn (d : Direction) (m : ℕ) (row : Option Row) (old new : Way) : Type 0 where
  pub keeps : KeepsWay old new
  pub packets : new.line.fed.packets ≡ old.line.fed.packets ++ entering d old.line.horizon (option_to_list row)
  pub bound : new.line.fed.bound ≡ m
  pub going : new.line.fed.end ≡ Open

pub record EndsWay (old new : Way) : Type 0 where
  pub keeps : KeepsWay old new
  pub packets : new.line.fed.packets ≡ old.line.fed.packets
  pub ended : new.line.fed.end ≡ Ended

-- A way was fed what enters of these rows, up to this moment.
pub record IsWay (nest : NestParts) (d : Direction) (rows : List Row) (w : Way) : Type 0 where
  pub specs : w.line.specs ≡ directions_of d nest
  pub horizon : w.line.horizon ≡ nest.horizon
  pub packets : w.line.fed.packets ≡ entering d nest.horizon rows

-- It was fed up to this moment, and all that had left it by then was sent.
pub record IsCurrentWay (nest : NestParts) (d : Direction) (rows : List Row) (m : ℕ) (w : Way) : Type 0 where
  pub way : IsWay nest d rows w
  pub bound : w.line.fed.bound ≡ m
  pub within : m ≤ w.line.horizon
  pub going : w.line.fed.end ≡ Open
  pub sent : w.sent ≡ length (up_to m w.line.departed)
  pub settled : IsSettled w.line

-- It was fed up to this moment, or all, and nothing of that was sent yet.
pub record IsFedWay (nest : NestParts) (d : Direction) (rows : List Row) (m : ℕ) (old new : Way) : Type 0 where
  pub way : IsWay nest d rows new
  pub bound : new.line.fed.bound ≡ m
  pub going : new.line.fed.end ≡ Open
  pub keeps : KeepsWay old new

pub record IsEndedWay (nest : NestParts) (d : Direction) (rows : List Row) (old new : Way) : Type 0 where
  pub way : IsWay nest d rows new
  pub ended : new.line.fed.end ≡ Ended
  pub keeps : KeepsWay old new

-- what is still to be sent of what left it up to a moment
abbrev pub waiting : List (List ℕ) → ℕ → Way → List (List ℕ)
waiting pieces m w = map (bytes_in pieces) (drop w.sent (up_to m w.line.departed))
