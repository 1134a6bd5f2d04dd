-- For proofs alone: how the streams of a line's shells meet, so that each is fed what was taken from the one before it.
use Rattle.std.specs.Prelude.{◌≡◌, ◌≤◌, ◌<◌, ℕ, Bool, true, false, List, [], ◌∷◌, ◌++◌, map}
use Rattle.packet_record.specs.declared.packet.Timed.{Timed}
use Rattle.packet_record.specs.declared.item.Item.{Item}
use Rattle.packet_record.specs.declared.item.Item.TheVariants.{Packet, Mark, End, Broken}
use Rattle.packet_record.specs.declared.item.FlowEnd.TheVariants.{Open}
use Rattle.packet_record.specs.Streams.{Stream, stream}
use Rattle.packet_record.specs.Moments.{AreFrom}
use Rattle.shell_state.specs.declared.taken.Taken.{Taken}
use Rattle.shell_state.specs.declared.taken.Taken.TheVariants.{Item as Gives, Again, NotYet}
use Rattle.shell_state.specs.Promises.{takes_left}
use Rattle.shell_state.specs.States.{State, new_state}
use Rattle.shell_state.specs.Causes.{Waits}
use Rattle.shell_state.specs.Standing.{Stands}

-- The stream `old` was open, and `new` is it or goes on from it.
pub record Grows (old new : Stream) : Type 0 where
  pub going : old.end ≡ Open
  pub more : List Timed
  pub packets : new.packets ≡ old.packets ++ more
  pub later : AreFrom old.bound more
  pub bound : old.bound ≤ new.bound

-- The shell and its horizon are the same, and it is broken or not as it was.
pub record IsSameShell (old new : State) : Type 0 where
  pub spec : new.spec ≡ old.spec
  pub horizon : new.horizon ≡ old.horizon
  pub broken : new.broken ≡ old.broken

-- The state `old` became `new`: all that was taken from the shell before was fed, but for an end.
pub record Caught (old before new : State) : Type 0 where
  pub same : IsSameShell old new
  pub taken : new.taken ≡ old.taken
  pub fed : new.fed ≡ stream before.taken.packets before.taken.bound Open

-- There may be more to take after this.
abbrev pub goes_on : Taken → Bool
goes_on (Gives (Packet t)) = true
goes_on (Gives (Mark m)) = true
goes_on (Gives End) = false
goes_on (Gives Broken) = false
goes_on (Again n) = true
goes_on (NotYet m) = false

-- The stream that was taken is open, and fewer takes may still give something.
pub record TakesFewer (old new : State) : Type 0 where
  pub going : new.taken.end ≡ Open
  pub fewer : takes_left new.fed.packets new < takes_left old.fed.packets old

-- The state is sound, has the horizon `h`, and isn't broken.
pub record IsSound (h : ℕ) (s : State) : Type 0 where
  pub stands : Stands s
  pub horizon : s.horizon ≡ h
  pub unbroken : s.broken ≡ false

-- Nothing can be taken before more is fed.
pub record Rests (h : ℕ) (s : State) : Type 0 where
  pub sound : IsSound h s
  pub waits : s.taken.end ≡ Open → Waits s

-- Each shell was fed a prefix of what was taken from the one before it, the first a prefix of `whole`. What was taken
-- from each is open.
abbrev pub Follow : ℕ → Stream → List State → Type 0
Follow h whole [] = Unit {0}
Follow h whole (s ∷ states) = Grows s.fed whole × IsSound h s × (s.taken.end ≡ Open) × Follow h s.taken states

-- Each shell was fed all that was taken from the one before it, the first all of `whole`, and each rests.
abbrev pub Meet : ℕ → Stream → List State → Type 0
Meet h whole [] = Unit {0}
Meet h whole (s ∷ states) = (s.fed ≡ whole) × Rests h s × Meet h s.taken states

-- Packets as items.
abbrev pub packet_items : List Timed → List Item
packet_items packets = map Packet packets

-- The states are those of shells before anything was fed, and are sound.
abbrev pub AreNew : ℕ → List State → Type 0
AreNew h [] = Unit {0}
AreNew h (s ∷ states) = (s ≡ new_state s.spec h) × Stands s × AreNew h states
