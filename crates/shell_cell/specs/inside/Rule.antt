-- For proofs alone: the rule of the table, which says what is true of it at every moment, and what each step tells the
-- seat that makes it.
use Rattle.std.specs.Prelude.{◌≡◌, ◌≢◌, ℕ, suc, ◌+◌, ◌*◌, ◌<◌, List, [], ◌∷◌, ◌++◌, Bool, true, false, ◌||◌, Option}
use Rattle.std.specs.Prelude.{Some, None, All, ◌⊎◌}
use mathlib.Core.Option.{some, none}
use lib.ListN.{get_elem?}
use Rattle.atomic_table.specs.Table.{State as TableState, Me, Step, rest}
use Rattle.shell_state.specs.States.{State, new_state}
use Rattle.shell_state.specs.Steps.{after_feed}
use Rattle.shell_state.specs.declared.spec.DirSpec.TheVariants.{Pass}
use Rattle.shell_cell.specs.declared.view.FeedTurn.{FeedTurn}
use Rattle.shell_cell.specs.declared.view.DrainTurn.{DrainTurn}
use Rattle.shell_cell.specs.declared.view.Note.{Note}
use Rattle.shell_cell.specs.declared.view.View.{View}
use Rattle.shell_cell.specs.declared.view.SeatRole.{SeatRole}
use Rattle.shell_cell.specs.declared.view.SeatRole.TheVariants.{Whole, Feeder, Drain, Joined, Spent}
use Rattle.shell_cell.specs.declared.view.Call.{Call}
use Rattle.shell_cell.specs.declared.view.Call.TheVariants.{Feeds, Drains}
use Rattle.shell_cell.specs.History.{IsPast, fed_flow, taken_flow, MayFeed, Answers, after_drain}

-- The seats are one before they are split (`whole`), then two (`shared`), and at last one again (`joined`).
pub data Stage : Type 0 where
  whole : Stage
  shared : Stage
  joined : Stage

-- Who has the turn.
pub data Holder : Type 0 where
  nobody : Holder
  feeder : Holder
  drain : Holder

-- What a seat knows, of its parts.
abbrev pub view : SeatRole → State → List FeedTurn → List DrainTurn → Bool → Option Note → View
view role opening fed drained broken note = record {
  role = role;
  opening = opening;
  fed = fed;
  drained = drained;
  broken = broken;
  note = note;
}

-- What a seat knows that was joined to the other.
abbrev pub spent_view : View
spent_view = view Spent (new_state Pass 0) [] [] false None

-- The note of the turn after `n` turns, which left the state `y`.
abbrev pub note_of : ℕ → State → Note
note_of n y = record { spent = n; state = y }

-- What each seat knows. `f` and `d` say whether the feeder and the drain have found the state broken, `a` and `b` are
-- their notes.
abbrev pub views_of : Stage → State → List FeedTurn → List DrainTurn → Bool → Bool → Option Note → Option Note
    → List View
views_of whole x fed drained f d a b = view Whole x fed drained false None ∷ []
views_of shared x fed drained f d a b = view Feeder x fed [] f a ∷ view Drain x [] drained d b ∷ []
views_of joined x fed drained f d a b = view Joined x fed drained (f || d) None ∷ spent_view ∷ []

-- The feeder's note, if it has the turn.
abbrev pub feeder_note : Holder → Note → Option Note
feeder_note nobody m = None
feeder_note feeder m = Some m
feeder_note drain m = None

-- The drain's note, if it has the turn.
abbrev pub drain_note : Holder → Note → Option Note
drain_note nobody m = None
drain_note feeder m = None
drain_note drain m = Some m

-- The word of the turn after `n` turns. It is even while the turn is free.
abbrev pub word_of : Holder → ℕ → ℕ
word_of nobody n = 2 * n
word_of feeder n = 2 * n + 1
word_of drain n = 2 * n + 1

-- The slot, which holds the state while the turn is free.
abbrev pub home_of : Holder → State → mathlib.Core.Option.Option State
home_of nobody y = some y
home_of feeder y = none
home_of drain y = none

-- Nobody has the turn before the seats are split and after they are joined.
abbrev pub Settles : Stage → Holder → Type 0
Settles shared holder = Unit {0}
Settles whole holder = holder ≡ nobody
Settles joined holder = holder ≡ nobody

-- What is true of the table at every moment.
pub record Kept (x : State) (s : TableState State View) : Type 0 where
  pub stage : Stage
  pub holder : Holder
  pub turns : ℕ
  pub fed : List FeedTurn
  pub drained : List DrainTurn
  pub feeder_found : Bool
  pub drain_found : Bool
  pub left : State
  pub past : IsPast x fed drained turns left
  pub feeder_right : feeder_found ≡ true → left.broken ≡ true
  pub drain_right : drain_found ≡ true → left.broken ≡ true
  pub settles : Settles stage holder
  pub views : s.views ≡ views_of stage x fed drained feeder_found drain_found
      (feeder_note holder (note_of turns left)) (drain_note holder (note_of turns left))
  pub words : s.words ≡ word_of holder turns ∷ []
  pub homes : s.homes ≡ home_of holder left ∷ []

-- What a seat knows, and the slots that it has.
abbrev pub Place : Type 0
Place = Me State View

-- What a seat knows with another note.
abbrev pub with_note : View → Option Note → View
with_note v m = view v.role v.opening v.fed v.drained v.broken m

-- The seat has the turn and the slot with the state, and knows what it can know of that state.
pub record Claimed (before : Place) (word : ℕ) (after : Place) : Type 0 where
  pub spent : ℕ
  pub state : State
  pub even : word ≡ 2 * spent
  pub holds : after ≡ (with_note before.0 (Some (note_of spent state)), (0, state) ∷ before.1)
  pub fed_is : before.0.role ≡ Feeder → state.fed ≡ fed_flow before.0.fed
  pub taken_is : before.0.role ≡ Drain → state.taken ≡ taken_flow before.0.drained
  pub broken : before.0.broken ≡ true → state.broken ≡ true
  pub horizon : state.horizon ≡ before.0.opening.horizon
  pub spec : state.spec ≡ before.0.opening.spec

-- A step that asks for the turn: the word was as expected, and the seat has the turn; or nothing changed.
abbrev pub claims : Step State → Place → ℕ → Place → Type 0
claims st m r m' = (r ≡ st.first → Claimed m r m') × (r ≢ st.first → m' ≡ m)

-- The noted state is broken.
abbrev pub broken_in : Option Note → Bool
broken_in None = false
broken_in (Some m) = m.state.broken

-- What a seat knows without the turn: it knows now whether the state was broken.
abbrev pub without_note : View → View
without_note v = view v.role v.opening v.fed v.drained (broken_in v.note) None

-- A step that gives the turn back without spending it.
abbrev pub gives_up : Step State → Place → ℕ → Place → Type 0
gives_up st m r m' = m' ≡ (without_note m.0, rest m.1)

-- The number of the turn that the seat has.
abbrev pub number_in : Option Note → ℕ
number_in None = 0
number_in (Some m) = suc m.spent

-- The state after a call.
abbrev pub after_call : Call → State → State
after_call (Feeds item) y = after_feed y item
after_call (Drains call) y = after_drain y call

-- The call leaves a broken state.
abbrev pub broken_by : Call → Option Note → Bool
broken_by call None = false
broken_by call (Some m) = (after_call call m.state).broken

-- What a seat knows after it spent the turn on a call, and gave it back.
abbrev pub with_turn : View → Call → View
with_turn v (Feeds item) = view v.role v.opening (v.fed ++ record { number = number_in v.note; item = item } ∷ [])
    v.drained (broken_by (Feeds item) v.note) None
with_turn v (Drains call) = view v.role v.opening v.fed (v.drained
    ++ record { number = number_in v.note; call = call } ∷ []) (broken_by (Drains call) v.note) None

-- The number is above those of the seat's turns.
abbrev pub IsAbove : View → ℕ → Type 0
IsAbove v k = All (λ (t : FeedTurn). t.number < k) v.fed × All (λ (t : DrainTurn). t.number < k) v.drained

-- A step that gives the turn back, spent on a call.
abbrev pub spends : Call → Step State → Place → ℕ → Place → Type 0
spends call st m r m' = (m' ≡ (with_turn m.0 call, rest m.1)) × IsAbove m.0 (number_in m.0.note)

-- What the feeder knows once the seats are split.
abbrev pub left_of : View → View
left_of v = view Feeder v.opening v.fed [] false None

-- What the drain knows once the seats are split.
abbrev pub right_of : View → View
right_of v = view Drain v.opening [] v.drained false None

-- What the seat knows once both are joined.
abbrev pub both_of : View → View → View
both_of v w = view Joined v.opening v.fed w.drained (v.broken || w.broken) None

-- A seat of the role may make the call in the state `y`, and the call has the state's answer.
abbrev pub IsMade : Call → SeatRole → State → Type 0
IsMade (Feeds item) role y = (role ≡ Feeder) × MayFeed y item
IsMade (Drains call) role y = (role ≡ Drain) × Answers y call

-- The seat has the turn, and the slot has the state that the call leaves.
pub record IsDone (call : Call) (m : Place) (word : ℕ) : Type 0 where
  pub note : Note
  pub has : m.0.note ≡ Some note
  pub odd : word ≡ 2 * note.spent + 1
  pub made : IsMade call m.0.role note.state
  pub carried : m.1 ≡ (0, after_call call note.state) ∷ []

-- The seat has the turn, and the slot has the state that the seat found.
pub record IsUndone (m : Place) (word : ℕ) : Type 0 where
  pub note : Note
  pub has : m.0.note ≡ Some note
  pub odd : word ≡ 2 * note.spent + 1
  pub role : (m.0.role ≡ Feeder) ⊎ (m.0.role ≡ Drain)
  pub carried : m.1 ≡ (0, note.state) ∷ []

-- What the joined seat knows and the slots hold when the table is closed.
pub record IsEnd (x : State) (v : View) (slots : List State) : Type 0 where
  pub turns : ℕ
  pub left : State
  pub past : IsPast x v.fed v.drained turns left
  pub right : v.broken ≡ true → left.broken ≡ true
  pub found : get_elem? slots 0 ≡ some left

-- The seat has taken the turn, and the slot with the state `y`.
pub record IsTaken (before : Place) (word : ℕ) (y : State) (after : Place) : Type 0 where
  pub spent : ℕ
  pub odd : word ≡ 2 * spent + 1
  pub holds : after ≡ (with_note before.0 (Some (note_of spent y)), (0, y) ∷ [])
  pub fed_is : before.0.role ≡ Feeder → y.fed ≡ fed_flow before.0.fed
  pub taken_is : before.0.role ≡ Drain → y.taken ≡ taken_flow before.0.drained
  pub broken : before.0.broken ≡ true → y.broken ≡ true
  pub horizon : y.horizon ≡ before.0.opening.horizon
  pub spec : y.spec ≡ before.0.opening.spec

-- The seat has taken the turn, and the slot with some state.
abbrev pub HasTaken : Place → ℕ → Place → Type 0
HasTaken before word after = (y : State) × IsTaken before word y after
