-- The history of a cell: which calls its two seats made, in the order of their numbers. Each seat keeps the list of its
-- own turns.
use Rattle.std.specs.Prelude.{◌≡◌, ℕ, zero, suc, ◌+◌, ◌<◌, ◌≤◌, List, [], ◌∷◌, count_by, fold, false, ◌==◌, ◌&&◌}
use Rattle.std.specs.Prelude.{nat_le, nat_lt, Option, Some, None, if◌then◌else◌}
use Rattle.packet_record.specs.declared.item.Item.{Item}
use Rattle.packet_record.specs.declared.item.FlowEnd.TheVariants.{Open}
use Rattle.packet_record.specs.Streams.{Stream, no_items, after, MayFollow, IsUpTo}
use Rattle.shell_state.specs.States.{State}
use Rattle.shell_state.specs.Steps.{after_feed, after_take, after_break, answer_of, stream_after}
use Rattle.shell_cell.specs.declared.view.FeedTurn.{FeedTurn}
use Rattle.shell_cell.specs.declared.view.DrainTurn.{DrainTurn}
use Rattle.shell_cell.specs.declared.view.DrainCall.{DrainCall}
use Rattle.shell_cell.specs.declared.view.DrainCall.TheVariants.{Takes, Breaks}

-- The state after a call of the drain.
abbrev pub after_drain : State → DrainCall → State
after_drain s (Takes most answer) = after_take s most
after_drain s Breaks = after_break s

-- The drain may make the call in the state `s`, and the call has the state's answer.
abbrev pub Answers : State → DrainCall → Type 0
Answers s (Takes most answer) = (1 ≤ most) × (s.taken.end ≡ Open) × (answer ≡ answer_of s most)
Answers s Breaks = Unit {0}

-- A turn may be spent on a feed of the item: the state isn't broken, and the item may follow and is within the horizon.
abbrev pub MayFeed : State → Item → Type 0
MayFeed s item = (s.broken ≡ false) × MayFollow s.fed item × IsUpTo s.horizon item

-- The item that was fed in turn `k`, if it was a feeder's turn.
abbrev pub fed_at : List FeedTurn → ℕ → Option Item
fed_at [] k = None
fed_at (t ∷ ts) k = if t.number == k then Some t.item else fed_at ts k

-- The call that was made in turn `k`, if it was a drain's turn.
abbrev pub drained_at : List DrainTurn → ℕ → Option DrainCall
drained_at [] k = None
drained_at (t ∷ ts) k = if t.number == k then Some t.call else drained_at ts k

-- The state after a turn, which is a feed, or a call of the drain.
abbrev pub turned : Option Item → Option DrainCall → State → State
turned (Some item) drain s = after_feed s item
turned None (Some call) s = after_drain s call
turned None None s = s

-- The state after the turns 1 to `n`. It is `x` before the first.
abbrev pub state_at : State → List FeedTurn → List DrainTurn → ℕ → State
state_at x fed drained zero = x
state_at x fed drained (suc n) = turned (fed_at fed (suc n)) (drained_at drained (suc n)) (state_at x fed drained n)

-- The turn, a feed or a call of the drain, may be spent in the state `s` and has the state's answer.
abbrev pub IsTurn : Option Item → Option DrainCall → State → Type 0
IsTurn (Some item) drain s = MayFeed s item
IsTurn None (Some call) s = Answers s call
IsTurn None None s = ⊥

-- Each of the turns 1 to `n` may be spent in the state that those before it leave, and has that state's answer.
abbrev pub IsLegal : State → List FeedTurn → List DrainTurn → ℕ → Type 0
IsLegal x fed drained n = (i : ℕ) → i < n → IsTurn (fed_at fed (suc i)) (drained_at drained (suc i))
    (state_at x fed drained i)

-- How often the number `k` is in the two lists.
abbrev pub times : List FeedTurn → List DrainTurn → ℕ → ℕ
times fed drained k = count_by (λ (t : FeedTurn). t.number == k) fed + count_by (λ (t : DrainTurn). t.number == k)
    drained

-- 1 for the numbers 1 to `n`, and 0 for others.
abbrev pub once_to : ℕ → ℕ → ℕ
once_to n k = if nat_lt 0 k && nat_le k n then 1 else 0

-- The numbers of both lists are together 1 to `n`, each once.
abbrev pub IsNumbered : List FeedTurn → List DrainTurn → ℕ → Type 0
IsNumbered fed drained n = (k : ℕ) → times fed drained k ≡ once_to n k

-- The stream of the items that were fed.
abbrev pub fed_flow : List FeedTurn → Stream
fed_flow fed = fold (λ (f : Stream) (t : FeedTurn). after f t.item) no_items fed

-- The stream after the item that a call of the drain gave, if it gave one.
abbrev pub flow_after : Stream → DrainCall → Stream
flow_after f (Takes most answer) = stream_after f answer
flow_after f Breaks = f

-- The stream of the items that were taken.
abbrev pub taken_flow : List DrainTurn → Stream
taken_flow drained = fold (λ (f : Stream) (t : DrainTurn). flow_after f t.call) no_items drained

-- A history of `n` turns that begins at the state `x` and leaves the state `y`.
pub record IsHistory (x : State) (fed : List FeedTurn) (drained : List DrainTurn) (n : ℕ) (y : State) : Type 0 where
  pub numbered : IsNumbered fed drained n
  pub legal : IsLegal x fed drained n
  pub leaves : state_at x fed drained n ≡ y

-- Such a history. The state `y` has the streams of the seats, and the horizon and the shell of `x`.
pub record IsPast (x : State) (fed : List FeedTurn) (drained : List DrainTurn) (n : ℕ) (y : State) : Type 0 where
  pub history : IsHistory x fed drained n y
  pub fed_is : y.fed ≡ fed_flow fed
  pub taken_is : y.taken ≡ taken_flow drained
  pub horizon : y.horizon ≡ x.horizon
  pub spec : y.spec ≡ x.spec
