-- A cell and its seats as contracts see them, and what each call does to a seat.
use Rattle.std.specs.Prelude.{◌≡◌, ◌⊎◌, ℕ, ◌<◌, List, [], ◌∷◌, ◌++◌, Bool, true, false, All}
use Rattle.atomic_table.specs.Seated.{TableId}
use Rattle.packet_record.specs.declared.item.Item.{Item}
use Rattle.packet_record.specs.Streams.{Stream, after, MayFollow, IsUpTo}
use Rattle.shell_state.specs.declared.taken.Taken.{Taken}
use Rattle.shell_state.specs.declared.taken.Taken.TheVariants.{Item as Gives, Again, NotYet}
use Rattle.shell_state.specs.States.{State}
use Rattle.shell_state.specs.Steps.{answer_of, after_take, breaks}
use Rattle.shell_state.specs.Standing.{Stands}
use Rattle.shell_state.specs.Causes.{HasCauses}
use Rattle.shell_cell.specs.declared.view.FeedTurn.{FeedTurn}
use Rattle.shell_cell.specs.declared.view.DrainTurn.{DrainTurn}
use Rattle.shell_cell.specs.declared.view.DrainCall.{DrainCall}
use Rattle.shell_cell.specs.History.{IsPast}

-- Which cell it is, and the state that it was opened with.
pub record Cell : Type 0 where
  pub table : TableId
  pub opening : State

-- The turns that the seat has spent, the stream of its items, whether it has found the state broken, the horizon, and
-- its cell.
pub record Seat (Turn : Type 0) : Type 0 where
  pub turns : List Turn
  pub flow : Stream
  pub broken : Bool
  pub horizon : ℕ
  pub cell : Cell

-- The seat that feeds.
abbrev pub FeedView : Type 0
FeedView = Seat FeedTurn

-- The seat that takes.
abbrev pub DrainView : Type 0
DrainView = Seat DrainTurn

-- The seat has the same horizon and cell.
abbrev pub IsSameSeat : {Turn : Type 0} → Seat Turn → Seat Turn → Type 0
IsSameSeat old new = (new.horizon ≡ old.horizon) × (new.cell ≡ old.cell)

-- No turn was spent, and the stream is as it was.
abbrev pub IsUnspent : {Turn : Type 0} → Seat Turn → Seat Turn → Type 0
IsUnspent old new = (new.turns ≡ old.turns) × (new.flow ≡ old.flow)

-- The seat may feed the item. Once it has found the state broken, it may feed any.
abbrev pub MayFeedAt : FeedView → Item → Type 0
MayFeedAt s item = MayFollow s.flow item ⊎ (s.broken ≡ true)

-- A feed spent a turn, whose number is above those of the seat's earlier turns.
pub record SpendsFeed (old : FeedView) (item : Item) (new : FeedView) : Type 0 where
  pub number : ℕ
  pub turns : new.turns ≡ old.turns ++ record { number = number; item = item } ∷ []
  pub above : All (λ (t : FeedTurn). t.number < number) old.turns
  pub breaks_it : new.broken ≡ breaks item

-- A feed found the state broken, and spent no turn.
abbrev pub FindsBroken : FeedView → FeedView → Type 0
FindsBroken old new = (new.broken ≡ true) × IsUnspent old new

-- The item was added to the stream, or the state was found broken.
abbrev pub Fed : FeedView → Item → FeedView → Type 0
Fed old item new = ((old.broken ≡ false) × (new.flow ≡ after old.flow item))
    ⊎ ((new.broken ≡ true) × (new.flow ≡ old.flow))

-- A call of the drain spent a turn, whose number is above those of the seat's earlier turns.
pub record SpendsDrain (old : DrainView) (call : DrainCall) (new : DrainView) : Type 0 where
  pub number : ℕ
  pub turns : new.turns ≡ old.turns ++ record { number = number; call = call } ∷ []
  pub above : All (λ (t : DrainTurn). t.number < number) old.turns

-- The answer of a take is that of the state which the turn found, with its causes. That state is sound, and what was
-- taken from it is the seat's stream.
pub record Found (old : DrainView) (most : ℕ) (answer : Taken) (new : DrainView) : Type 0 where
  pub state : State
  pub stands : Stands state
  pub gives : answer ≡ answer_of state most
  pub causes : HasCauses state most answer (after_take state most)
  pub taken : state.taken ≡ old.flow
  pub horizon : state.horizon ≡ old.horizon
  pub spec : state.spec ≡ old.cell.opening.spec
  pub broken : new.broken ≡ state.broken

-- The stream after a take: an item that was taken is added to it.
abbrev pub Took : DrainView → Taken → DrainView → Type 0
Took old (Gives item) new = (new.flow ≡ after old.flow item) × MayFollow old.flow item × IsUpTo old.horizon item
Took old (Again burnt) new = new.flow ≡ old.flow
Took old (NotYet bound) new = new.flow ≡ old.flow

-- The turns of both seats are together numbered 1 to some `n`, each once. Made in the order of their numbers the calls
-- are legal from the state `x` on, and leave `y`.
abbrev pub HasHistory : State → List FeedTurn → List DrainTurn → State → Type 0
HasHistory x fed drained y = (n : ℕ) × IsPast x fed drained n y
