-- For proofs alone: a state by its parts.
use Rattle.std.specs.Prelude.{◌≡◌, ◌≤◌, ◌+◌, ℕ, Bool, length}
use Rattle.packet_record.specs.declared.item.Item.{Item}
use Rattle.packet_record.specs.declared.item.Item.TheVariants.{Packet, Mark, End, Broken}
use Rattle.packet_record.specs.declared.item.FlowEnd.TheVariants.{Open}
use Rattle.packet_record.specs.declared.reach.Reach.{Reach}
use Rattle.packet_record.specs.Streams.{IsFrom}
use Rattle.packet_record.specs.Moments.{AreUpTo}
use Rattle.link_core.specs.Promises.{count_to}
use Rattle.shell_state.specs.Shells.{opportunities}
use Rattle.shell_state.specs.CoreParts.{CorePart, with_arrival}
use Rattle.shell_state.specs.declared.front.Front.{Front}
use Rattle.shell_state.specs.declared.taken.Taken.{Taken}
use Rattle.shell_state.specs.declared.taken.Taken.TheVariants.{Item as Gives, Again, NotYet}
use Rattle.shell_state.specs.inside.Fronts.{front_after, CanCount}
use Rattle.shell_state.specs.Standing.{Stands}
use Rattle.shell_state.specs.views.Whole.{departed_of, state_of}

abbrev pub core_fed : CorePart → Item → CorePart
core_fed core (Packet t) = with_arrival core t
core_fed core (Mark m) = core
core_fed core End = core
core_fed core Broken = core

-- the core fits what was fed: the bound, and what was burnt
pub record IsState (core : CorePart) (fed : Reach) : Type 0 where
  pub bounded : AreUpTo fed.bound core.arrivals
  pub bound : fed.bound ≤ core.horizon + 1
  pub allowed : fed.end ≡ Open → core.burnt ≤ count_to (opportunities core.spec core.horizon) fed.bound

-- what is true of the parts
pub record IsWhole (core : CorePart) (fed : Reach) (taken : Front) (broken : Bool) : Type 0 where
  pub counted : taken.count ≤ length (departed_of core)
  pub stands : Stands (state_of core fed taken broken)

-- what was taken, after an answer
abbrev pub front_with : Front → Taken → Front
front_with f (Gives item) = front_after f item
front_with f (Again n) = f
front_with f (NotYet m) = f

-- an item that is answered may follow
abbrev pub AnswerFollows : ℕ → Taken → Type 0
AnswerFollows bound (Gives item) = IsFrom bound item
AnswerFollows bound (Again n) = Unit {0}
AnswerFollows bound (NotYet m) = Unit {0}

-- the count has room for what is answered
abbrev pub AnswerFits : ℕ → Taken → Type 0
AnswerFits n (Gives item) = CanCount n item
AnswerFits n (Again k) = Unit {0}
AnswerFits n (NotYet m) = Unit {0}
