-- For proofs alone: the rule of the channel. What was sent is what was received and then what the channel holds, and
-- that may follow what was received. At most one pass may send, and it knows what was sent; at most one may receive,
-- and it knows what was received.
use Rattle.std.specs.Prelude.{◌≡◌, ℕ, Bool, true, false, List, []}
use mathlib.Core.Option.{some}
use lib.ListN.{get_elem?}
use Rattle.packet_record.specs.declared.item.Item.{Item}
use Rattle.packet_record.specs.Streams.{MayFollow, IsUpTo, AllFollow}
use Rattle.mark_channel.specs.inside.Carrying.{nothing, carrying, carrying_all}
use Rattle.mark_channel.specs.Carried.{Carried}
use Rattle.mark_channel.specs.declared.rule.View.{View}

-- What a pass knows, of its parts.
abbrev pub known : Bool → Bool → Bool → ℕ → Carried → Carried → View
known fresh sends gets horizon sent got = record {
  fresh = fresh;
  sends = sends;
  gets = gets;
  horizon = horizon;
  sent = sent;
  got = got;
}

-- What the only pass of a new channel knows.
abbrev pub opening : View
opening = known true true true 0 nothing nothing

-- What the pass of the sender knows.
abbrev pub sending : ℕ → Carried → View
sending horizon sent = known false true false horizon sent nothing

-- What the pass of the receiver knows.
abbrev pub getting : ℕ → Carried → View
getting horizon got = known false false true horizon nothing got

-- What a pass knows that has both ends.
abbrev pub settling : ℕ → Carried → Carried → View
settling horizon sent got = known false true true horizon sent got

-- What a pass knows that was given to another.
abbrev pub spent : View
spent = known false false false 0 nothing nothing

-- If the pass may send, it is that of the writer, and knows what was sent and the horizon.
abbrev pub FitsWriter : ℕ → ℕ → Carried → ℕ → View → Type 0
FitsWriter horizon writer sent port v = v.sends ≡ true → (port ≡ writer) × (v.sent ≡ sent) × (v.horizon ≡ horizon)

-- If the pass may receive, it is that of the reader, and knows what was received and the horizon.
abbrev pub FitsReader : ℕ → ℕ → Carried → ℕ → View → Type 0
FitsReader horizon reader got port v = v.gets ≡ true → (port ≡ reader) × (v.got ≡ got) × (v.horizon ≡ horizon)

-- If no horizon was chosen yet, the pass is that of the writer, and the channel is empty.
abbrev pub FitsFresh : ℕ → List Item → ℕ → View → Type 0
FitsFresh writer items port v = v.fresh ≡ true → (port ≡ writer) × (items ≡ [])

-- What the pass at a port knows is so.
abbrev pub Fits : ℕ → ℕ → ℕ → Carried → Carried → List Item → ℕ → View → Type 0
Fits horizon writer reader sent got items port v = FitsWriter horizon writer sent port v
    × FitsReader horizon reader got port v × FitsFresh writer items port v

-- What is true of the channel at every moment: what it holds, `items`, and what its passes know, `views`.
pub record Kept (items : List Item) (views : List View) : Type 0 where
  pub horizon : ℕ
  pub writer : ℕ
  pub reader : ℕ
  pub sent : Carried
  pub got : Carried
  pub whole : sent ≡ carrying_all got items
  pub honest : AllFollow horizon got.flow items
  pub fits : (port : ℕ) (v : View) → get_elem? views port ≡ some v → Fits horizon writer reader sent got items port v

-- What the pass knows after it sent `x`.
abbrev pub Sends : View → Item → View → Type 0
Sends v x w = w ≡ known v.fresh v.sends v.gets v.horizon (carrying v.sent x) v.got

-- What the pass knows after it received `x`.
abbrev pub Gets : View → Item → View → Type 0
Gets v x w = (w ≡ known v.fresh v.sends v.gets v.horizon v.sent (carrying v.got x)) × MayFollow v.got.flow x
    × IsUpTo v.horizon x

-- What is learned once one pass knows both streams.
abbrev pub Settles : View → List Item → Type 0
Settles v items = (v.sent ≡ carrying_all v.got items) × AllFollow v.horizon v.got.flow items
