-- What every state promises of what is still to come.
use Rattle.std.specs.Prelude.{◌≡◌, ◌⊎◌, ◌≤◌, ◌<◌, ◌+◌, ◌-◌, ◌++◌, ℕ, false, List, [], ◌∷◌, length}
use Rattle.packet_record.specs.declared.packet.Timed.{Timed}
use Rattle.packet_record.specs.declared.item.Item.{Item}
use Rattle.packet_record.specs.declared.item.FlowEnd.{FlowEnd}
use Rattle.packet_record.specs.declared.item.FlowEnd.TheVariants.{Open, Ended, Broken as Cut}
use Rattle.packet_record.specs.Streams.{Stream, after_all, AllFollow}
use Rattle.packet_record.specs.Moments.{AreFrom, Rise}
use Rattle.shell_state.specs.Shells.{lost, inside, shell_log, whole_out, whole_lost, whole_inside, whole_log}
use Rattle.shell_state.specs.Wholes.{IsLink}
use Rattle.shell_state.specs.declared.taken.Taken.TheVariants.{NotYet}
use Rattle.shell_state.specs.States.{State, opps_of, floor_of}
use Rattle.shell_state.specs.Steps.{licensed, answer_of, after_feed, after_take}
use Rattle.shell_state.specs.Standing.{Foretells}

-- Where every opportunity that may be burnt is burnt, the floor isn't below what was fed. A link's is above it, unless
-- that is past the horizon.
pub record KeepsUp (s : State) : Type 0 where
  pub floor : licensed s ≤ s.burnt → s.fed.bound ≤ floor_of s
  pub above : licensed s ≤ s.burnt → IsLink s.spec → s.fed.bound ≤ s.horizon → s.fed.bound < floor_of s

-- These packets may come after a stream: their moments never fall, none is before the stream's bound, and none comes
-- after its end.
pub record MayCome (f : Stream) (packets : List Timed) : Type 0 where
  pub rises : Rise packets
  pub later : AreFrom f.bound packets
  pub open' : (f.end ≡ Open) ⊎ (packets ≡ [])

-- Whatever packets may still be fed: with them, what departs is what was taken and then packets at or after the bound
-- of that, and the log goes on from what it is.
abbrev pub ForetellsMore : State → Type 0
ForetellsMore s = (coming : List Timed) → MayCome s.fed coming → Foretells s (s.fed.packets ++ coming)

-- Nothing is to come: all was fed, and every list is that of the whole shell.
pub record IsFinished (s : State) : Type 0 where
  pub fed : s.fed.end ≡ Ended
  pub out : s.taken.packets ≡ whole_out s.spec s.horizon s.fed.packets
  pub lost : lost s.spec s.horizon s.burnt s.fed.packets ≡ whole_lost s.spec s.horizon s.fed.packets
  pub inside : inside s.spec s.horizon s.burnt s.fed.packets ≡ whole_inside s.spec s.horizon s.fed.packets
  pub log : shell_log s.spec s.horizon s.burnt s.fed.packets ≡ whole_log s.spec s.horizon s.fed.packets

abbrev pub open_of : FlowEnd → ℕ
open_of Open = 1
open_of Ended = 0
open_of Cut = 0

-- At most `n` takes may still answer anything but NotYet, where these are all packets that are ever fed: one for
-- each opportunity that isn't burnt, each moment up to the horizon plus 1 that nothing taken has reached, each
-- departure that wasn't taken, and the end.
abbrev pub takes_left : List Timed → State → ℕ
takes_left packets s =
    (length (opps_of s) - s.burnt) + (s.horizon + 1 - s.taken.bound) +
    (length (whole_out s.spec s.horizon packets) - length s.taken.packets) + open_of s.taken.end

-- the same with a feed for each item that is still to be fed
abbrev pub steps_left : List Item → State → ℕ
steps_left items s = length items + takes_left (after_all s.fed items).packets s

pub record GoesOn (s : State) : Type 0 where
  -- a take leaves fewer takes, unless it answers NotYet
  pub take : (most : ℕ) → 1 ≤ most → s.taken.end ≡ Open → (coming : List Timed) → MayCome s.fed coming
      → (answer_of s most ≡ NotYet s.fed.bound)
      ⊎ (takes_left (s.fed.packets ++ coming) (after_take s most) < takes_left (s.fed.packets ++ coming) s)
  -- a feed leaves no more
  pub feed : (item : Item) (packets : List Timed) → takes_left packets (after_feed s item) ≤ takes_left packets s
  -- both leave fewer steps
  pub take_step : (most : ℕ) → 1 ≤ most → s.taken.end ≡ Open → (items : List Item) → AllFollow s.horizon s.fed items
      → (answer_of s most ≡ NotYet s.fed.bound) ⊎ (steps_left items (after_take s most) < steps_left items s)
  pub feed_step : (item : Item) (items : List Item) → s.broken ≡ false
      → steps_left items (after_feed s item) < steps_left (item ∷ items) s
