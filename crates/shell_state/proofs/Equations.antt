-- What the steps change, for the crates above.
use Rattle.std.proofs.Common.{◌≡◌, ℕ, true, false, cond, refl, ap}
use Rattle.packet_record.specs.declared.item.Item.{Item}
use Rattle.packet_record.specs.Streams.{after}
use Rattle.shell_state.specs.States.{State}
use Rattle.shell_state.specs.Steps.{after_feed, after_take, after_break, answer_of, stream_after, fed_more, breaks}

pub feed_fed : (s : State) (item : Item) → s.broken ≡ false → (after_feed s item).fed ≡ after s.fed item
unfolding after_feed
feed_fed s item e = ap (λ b. (cond b s (fed_more s item)).fed) e

pub feed_taken : (s : State) (item : Item) → (after_feed s item).taken ≡ s.taken
unfolding after_feed
feed_taken s item = elim s.broken as (λ b. (cond b s (fed_more s item)).taken ≡ s.taken) [ true ↦ refl | false ↦ refl ]

pub feed_horizon : (s : State) (item : Item) → (after_feed s item).horizon ≡ s.horizon
unfolding after_feed
feed_horizon s item = elim s.broken as (λ b. (cond b s (fed_more s item)).horizon ≡ s.horizon) [
  | true ↦ refl
  | false ↦ refl
]

pub feed_spec : (s : State) (item : Item) → (after_feed s item).spec ≡ s.spec
unfolding after_feed
feed_spec s item = elim s.broken as (λ b. (cond b s (fed_more s item)).spec ≡ s.spec) [ true ↦ refl | false ↦ refl ]

pub feed_broken : (s : State) (item : Item) → s.broken ≡ true → after_feed s item ≡ s
unfolding after_feed
feed_broken s item e = ap (λ b. cond b s (fed_more s item)) e

pub take_taken : (s : State) (most : ℕ) → (after_take s most).taken ≡ stream_after s.taken (answer_of s most)
unfolding after_take
take_taken s most = refl

pub take_fed : (s : State) (most : ℕ) → (after_take s most).fed ≡ s.fed
unfolding after_take
take_fed s most = refl

pub take_horizon : (s : State) (most : ℕ) → (after_take s most).horizon ≡ s.horizon
unfolding after_take
take_horizon s most = refl

pub take_spec : (s : State) (most : ℕ) → (after_take s most).spec ≡ s.spec
unfolding after_take
take_spec s most = refl

pub take_broken : (s : State) (most : ℕ) → (after_take s most).broken ≡ s.broken
unfolding after_take
take_broken s most = refl

pub break_fed : (s : State) → (after_break s).fed ≡ s.fed
unfolding after_break
break_fed s = refl

pub break_taken : (s : State) → (after_break s).taken ≡ s.taken
unfolding after_break
break_taken s = refl

pub break_horizon : (s : State) → (after_break s).horizon ≡ s.horizon
unfolding after_break
break_horizon s = refl

pub break_broken : (s : State) → (after_break s).broken ≡ true
unfolding after_break
break_broken s = refl

pub feed_breaks : (s : State) (item : Item) → s.broken ≡ false → (after_feed s item).broken ≡ breaks item
unfolding after_feed
feed_breaks s item e = ap (λ b. (cond b s (fed_more s item)).broken) e
