-- A line: one direction of a nest that is fed items one by one, each of which passes all shells as far as it can.
use Rattle.std.specs.Prelude.{◌≡◌, ℕ, ◌+◌, ◌≤◌, Bool, List, [], ◌∷◌, ◌++◌, filter, nat_le}
use Rattle.packet_record.specs.declared.packet.Packet.{Packet}
use Rattle.packet_record.specs.declared.packet.Timed.{Timed}
use Rattle.packet_record.specs.declared.item.Item.{Item}
use Rattle.packet_record.specs.declared.item.FlowEnd.TheVariants.{Ended}
use Rattle.packet_record.specs.Streams.{Stream, after}
use Rattle.packet_record.specs.Moments.{Rise}
use Rattle.packet_record.specs.Packets.{number}
use Rattle.shell_state.specs.declared.spec.DirSpec.{DirSpec}
use Rattle.shell_state.specs.Shells.{whole_out}
use Rattle.shell_state.specs.Promises.{MayCome}

-- What the shells do, in passing order, the horizon, the stream that was fed to the first shell, what each shell has
-- dropped so far, and the packets that have departed from the last.
pub record LineParts : Type 0 where
  pub specs : List DirSpec
  pub horizon : ℕ
  pub fed : Stream
  pub lost : List (List Timed)
  pub departed : List Timed

-- How many packets of all lists pass a test.
abbrev pub number_all : (Packet → Bool) → List (List Timed) → ℕ
number_all test [] = 0
number_all test (ts ∷ lists) = number test ts + number_all test lists

-- What departs from the last shell, where `arrived` arrive at the first and each shell runs over its whole list of
-- arrivals.
abbrev pub last_out : ℕ → List DirSpec → List Timed → List Timed
last_out h [] arrived = arrived
last_out h (c ∷ specs) arrived = last_out h specs (whole_out c h arrived)

-- What departs from the last shell if no more is fed.
abbrev pub out_of : LineParts → List Timed
out_of l = last_out l.horizon l.specs l.fed.packets

-- The packets whose moments are at most `m`.
abbrev pub up_to : ℕ → List Timed → List Timed
up_to m packets = filter (λ (t : Timed). nat_le t.moment m) packets

-- The packets of `front` are the first of `all`.
pub record IsFront (front all : List Timed) : Type 0 where
  pub more : List Timed
  pub is : all ≡ front ++ more

-- `new` is the line `old` after `item` was fed. No packet that had departed is taken back or changed.
pub record IsFed (old : LineParts) (item : Item) (new : LineParts) : Type 0 where
  pub specs : new.specs ≡ old.specs
  pub horizon : new.horizon ≡ old.horizon
  pub fed : new.fed ≡ after old.fed item
  pub departed : IsFront old.departed new.departed

-- What is true of the packets that a line was fed, has lost and has let depart.
pub record IsSettled (l : LineParts) : Type 0 where
  -- Their moments never fall.
  pub rises : Rise l.departed
  -- Up to any moment `m` that is neither above the bound of what was fed nor above the horizon, all departures have
  -- happened.
  pub settled : (m : ℕ) → m ≤ l.fed.bound → m ≤ l.horizon → up_to m l.departed ≡ up_to m (out_of l)
  -- At the end all departures have happened.
  pub ended : l.fed.end ≡ Ended → l.departed ≡ out_of l
  -- Whatever packets may still come, what has departed is a prefix of what departs.
  pub foretells : (coming : List Timed) → MayCome l.fed coming
      → IsFront l.departed (last_out l.horizon l.specs (l.fed.packets ++ coming))
  -- No packet departs that wasn't fed.
  pub entered : (p : Packet → Bool) → number p l.fed.packets ≡ 0 → number p l.departed ≡ 0
  -- A packet that was fed is lost or departs at most once.
  pub once : (p : Packet → Bool) → number_all p l.lost + number p l.departed ≤ number p l.fed.packets
