-- What the calls of a cell leave of their seats.
use Rattle.std.proofs.Common.{◌≡◌, Bool, true, false, ℕ, suc, ◌<◌, [], ◌∷◌, ◌++◌, ◌||◌, refl, sym, ap}
use Rattle.std.proofs.Common.{◌∙◌, subst, ◌⊎◌, inl, ⊎_elim}
use Rattle.std.specs.Prelude.{All}
use Rattle.atomic_table.specs.Seated.{TableId}
use Rattle.packet_record.specs.declared.item.Item.{Item}
use Rattle.packet_record.specs.declared.item.Item.TheVariants.{Broken as Cut}
use Rattle.packet_record.specs.declared.item.FlowEnd.TheVariants.{Open}
use Rattle.packet_record.specs.Streams.{Stream, after, MayFollow, IsUpTo}
use Rattle.shell_state.specs.declared.taken.Taken.{Taken}
use Rattle.shell_state.specs.declared.taken.Taken.TheVariants.{Item as Gives, Again, NotYet}
use Rattle.shell_state.specs.States.{State}
use Rattle.shell_state.specs.Steps.{after_take, answer_of, stream_after}
use Rattle.shell_state.specs.Standing.{Stands}
use Rattle.shell_state.specs.Causes.{HasCauses}
use Rattle.shell_cell.specs.declared.view.FeedTurn.{FeedTurn}
use Rattle.shell_cell.specs.declared.view.DrainTurn.{DrainTurn}
use Rattle.shell_cell.specs.declared.view.DrainCall.{DrainCall}
use Rattle.shell_cell.specs.declared.view.DrainCall.TheVariants.{Takes}
use Rattle.shell_cell.specs.declared.view.View.{View}
use Rattle.shell_cell.specs.declared.view.SeatRole.TheVariants.{Feeder, Drain}
use Rattle.shell_cell.specs.declared.view.Call.TheVariants.{Feeds, Drains}
use Rattle.shell_cell.specs.History.{fed_flow, taken_flow, flow_after, MayFeed, after_drain}
use Rattle.shell_cell.specs.inside.Rule.{Place, IsTaken, with_turn, without_note, broken_in, broken_by, number_in}
use Rattle.shell_cell.specs.inside.Rule.{IsAbove}
use Rattle.shell_cell.specs.Seats.{FeedView, DrainView, MayFeedAt, SpendsFeed, FindsBroken, Fed, SpendsDrain, Found}
use Rattle.shell_cell.specs.Seats.{Took, HasHistory}
use Rattle.shell_cell.specs.views.Seats.{feed_seat, drain_seat}
use Rattle.shell_cell.specs.inside.Seats.{MayGive}
use Rattle.shell_cell.proofs.StateLaws.{feed_breaks, take_broken, answer_broken, answer_may}
use Rattle.shell_cell.proofs.Calls.{Closed}
use Rattle.shell_cell.proofs.Histories.{fed_flow_snoc, taken_flow_snoc}

-- what is known is known of no state that isn't broken
not_found : (f b : Bool) → (f ≡ true → b ≡ true) → b ≡ false → f ≡ false
not_found true b keeps e = absurd (let no : b ≡ true = keeps refl in cc)
not_found false b keeps e = refl

-- the feeder's seat by its table and what it knew, and the places before a turn, in it and after it
module _ (id : TableId) (before at now : Place) (word : ℕ) (y : State) (old : FeedView)
    (is : feed_seat id before.0 ≡ old) (taken : IsTaken before word y at) where
  fed_unbroken : y.broken ≡ false → old.broken ≡ false
  fed_unbroken e = ap (λ (s : FeedView). s.broken) (sym is) ∙ not_found before.0.broken y.broken taken.broken e

  pub feed_may : (item : Item) → before.0.role ≡ Feeder → y.broken ≡ false → MayFeedAt old item
      → IsUpTo old.horizon item → MayFeed y item
  feed_may item role whole may within = (
    whole,
    subst (λ (f : Stream). MayFollow f item) (sym (taken.fed_is role ∙ ap (λ (s : FeedView). s.flow) is))
        (⊎_elim (λ m. m) (λ found. let no = fed_unbroken whole in absurd (cc)) may),
    subst (λ (n : ℕ). IsUpTo n item) (sym (taken.horizon ∙ ap (λ (s : FeedView). s.horizon) is)) within,
  )

  pub feed_spends : (id' : TableId) (item : Item) → y.broken ≡ false → now ≡ (with_turn at.0 (Feeds item), [])
      → IsAbove at.0 (number_in at.0.note) → SpendsFeed old item (feed_seat id' now.0)
  feed_spends id' item whole spent above =
      let t : FeedTurn = record { number = suc taken.spent; item = item } in
      let P : Place → Type 0 = λ p. All (λ (t : FeedTurn). t.number < number_in p.0.note) p.0.fed in
      let mine : All (λ (t : FeedTurn). t.number < suc taken.spent) before.0.fed = subst P taken.holds above.0
      in record {
        number = suc taken.spent;
        turns = ap (λ (p : Place). p.0.fed) spent
            ∙ ap (λ (p : Place). p.0.fed ++ record { number = number_in p.0.note; item = item } ∷ []) taken.holds
            ∙ ap (λ (s : FeedView). s.turns ++ t ∷ []) is;
        above = subst (λ (s : FeedView). All (λ (t : FeedTurn). t.number < suc taken.spent) s.turns) is mine;
        breaks_it = ap (λ (p : Place). p.0.broken) spent
            ∙ ap (λ (p : Place). broken_by (Feeds item) p.0.note) taken.holds ∙ feed_breaks y item whole;
      }

  pub feed_feeds : (id' : TableId) (item : Item) → y.broken ≡ false → now ≡ (with_turn at.0 (Feeds item), [])
      → Fed old item (feed_seat id' now.0)
  feed_feeds id' item whole spent = inl (
    fed_unbroken whole,
    ap (λ (p : Place). fed_flow p.0.fed) spent ∙ fed_flow_snoc at.0.fed _
        ∙ ap (λ (p : Place). after (fed_flow p.0.fed) item) taken.holds ∙ ap (λ (s : FeedView). after s.flow item) is,
  )

  pub feed_finds : (id' : TableId) → y.broken ≡ true → now ≡ (without_note at.0, [])
      → FindsBroken old (feed_seat id' now.0)
  feed_finds id' broken given = (
    ap (λ (p : Place). p.0.broken) given ∙ ap (λ (p : Place). broken_in p.0.note) taken.holds ∙ broken,
    (
      ap (λ (p : Place). p.0.fed) given ∙ ap (λ (p : Place). p.0.fed) taken.holds ∙ ap (λ (s : FeedView). s.turns) is,
      ap (λ (p : Place). fed_flow p.0.fed) given ∙ ap (λ (p : Place). fed_flow p.0.fed) taken.holds
          ∙ ap (λ (s : FeedView). s.flow) is,
    ),
  )

  pub feed_leaves : (id' : TableId) → id' ≡ id → y.broken ≡ false → now ≡ (without_note at.0, [])
      → feed_seat id' now.0 ≡ old
  feed_leaves id' same whole given =
      let b : y.broken ≡ before.0.broken = whole ∙ sym (not_found before.0.broken y.broken taken.broken whole) in
      (λ k. feed_seat (same k) (given k).0) ∙ ap (λ (p : Place). feed_seat id (without_note p.0)) taken.holds
      ∙ (λ k. record {
        turns = before.0.fed;
        flow = fed_flow before.0.fed;
        broken = b k;
        horizon = before.0.opening.horizon;
        cell = record { table = id; opening = before.0.opening };
      }) ∙ is

-- the drain's, likewise
module _ (id : TableId) (before at now : Place) (word : ℕ) (y : State) (old : DrainView)
    (is : drain_seat id before.0 ≡ old) (taken : IsTaken before word y at) where
  drain_taken : before.0.role ≡ Drain → y.taken ≡ old.flow
  drain_taken role = taken.taken_is role ∙ ap (λ (s : DrainView). s.flow) is

  pub drain_open : before.0.role ≡ Drain → old.flow.end ≡ Open → y.taken.end ≡ Open
  drain_open role open' = ap (λ (f : Stream). f.end) (drain_taken role) ∙ open'

  pub drain_spends : (id' : TableId) (call : DrainCall) → now ≡ (with_turn at.0 (Drains call), [])
      → IsAbove at.0 (number_in at.0.note) → SpendsDrain old call (drain_seat id' now.0)
  drain_spends id' call spent above =
      let t : DrainTurn = record { number = suc taken.spent; call = call } in
      let P : Place → Type 0 = λ p. All (λ (t : DrainTurn). t.number < number_in p.0.note) p.0.drained in
      let mine : All (λ (t : DrainTurn). t.number < suc taken.spent) before.0.drained = subst P taken.holds above.1
      in record {
        number = suc taken.spent;
        turns = ap (λ (p : Place). p.0.drained) spent
            ∙ ap (λ (p : Place). p.0.drained ++ record { number = number_in p.0.note; call = call } ∷ []) taken.holds
            ∙ ap (λ (s : DrainView). s.turns ++ t ∷ []) is;
        above = subst (λ (s : DrainView). All (λ (t : DrainTurn). t.number < suc taken.spent) s.turns) is mine;
      }

  pub drain_flow : (call : DrainCall) → now ≡ (with_turn at.0 (Drains call), [])
      → taken_flow now.0.drained ≡ flow_after old.flow call
  drain_flow call spent = ap (λ (p : Place). taken_flow p.0.drained) spent ∙ taken_flow_snoc at.0.drained _
      ∙ ap (λ (p : Place). flow_after (taken_flow p.0.drained) call) taken.holds
      ∙ ap (λ (s : DrainView). flow_after s.flow call) is

  pub drain_finds : (call : DrainCall) → now ≡ (with_turn at.0 (Drains call), [])
      → now.0.broken ≡ (after_drain y call).broken
  drain_finds call spent = ap (λ (p : Place). p.0.broken) spent
      ∙ ap (λ (p : Place). broken_by (Drains call) p.0.note) taken.holds

  pub take_found : (id' : TableId) (most : ℕ) (answer : Taken) → before.0.role ≡ Drain → Stands y
      → answer ≡ answer_of y most → (z : State) → z ≡ after_take y most → HasCauses y most answer z
      → now ≡ (with_turn at.0 (Drains (Takes most answer)), [])
      → Found old most answer (drain_seat id' now.0)
  take_found id' most answer role stands gives z leaves causes spent = record {
    state = y;
    stands = stands;
    gives = gives;
    causes = subst (HasCauses y most answer) leaves causes;
    taken = drain_taken role;
    horizon = taken.horizon ∙ ap (λ (s : DrainView). s.horizon) is;
    spec = taken.spec ∙ ap (λ (s : DrainView). s.cell.opening.spec) is;
    broken = drain_finds (Takes most answer) spent ∙ take_broken y most;
  }

  took : (answer : Taken) (new : DrainView) → new.flow ≡ stream_after old.flow answer
      → MayGive old.flow old.horizon answer → Took old answer new
  took (Gives item) new flow may = (flow, may.0, may.1)
  took (Again n) new flow may = flow
  took (NotYet n) new flow may = flow

  pub take_took : (id' : TableId) (most : ℕ) (answer : Taken) → before.0.role ≡ Drain → old.flow.end ≡ Open → Stands y
      → answer ≡ answer_of y most → now ≡ (with_turn at.0 (Drains (Takes most answer)), [])
      → Took old answer (drain_seat id' now.0)
  take_took id' most answer role open' stands gives spent =
      let may : MayGive y.taken y.horizon answer = subst (MayGive y.taken y.horizon) (sym gives)
      (answer_may y most stands (drain_open role open')) in
      took answer (drain_seat id' now.0) (drain_flow (Takes most answer) spent)
      (subst (λ (p : Stream × ℕ). MayGive p.0 p.1 answer)
      (λ k. (drain_taken role k, (taken.horizon ∙ ap (λ (s : DrainView). s.horizon) is) k)) may)

  -- a seat that has found the state broken finds it broken again
  found_again : old.broken ≡ true → y.broken ≡ true
  found_again knows = taken.broken (ap (λ (s : DrainView). s.broken) is ∙ knows)

  pub take_broken_again : (most : ℕ) (answer : Taken) → answer ≡ answer_of y most → old.broken ≡ true
      → answer ≡ Gives Cut
  take_broken_again most answer gives knows = gives ∙ answer_broken y most (found_again knows)

  pub take_keeps : (most : ℕ) (answer : Taken) → now ≡ (with_turn at.0 (Drains (Takes most answer)), [])
      → old.broken ≡ true → now.0.broken ≡ true
  take_keeps most answer spent knows = drain_finds (Takes most answer) spent ∙ take_broken y most ∙ found_again knows

  pub take_leaves : (id' : TableId) → id' ≡ id → y.broken ≡ false → now ≡ (without_note at.0, [])
      → drain_seat id' now.0 ≡ old
  take_leaves id' same whole given =
      let b : y.broken ≡ before.0.broken = whole ∙ sym (not_found before.0.broken y.broken taken.broken whole) in
      (λ k. drain_seat (same k) (given k).0) ∙ ap (λ (p : Place). drain_seat id (without_note p.0)) taken.holds
      ∙ (λ k. record {
        turns = before.0.drained;
        flow = taken_flow before.0.drained;
        broken = b k;
        horizon = before.0.opening.horizon;
        cell = record { table = id; opening = before.0.opening };
      }) ∙ is

-- what a close shows of the seats and the state that it gives
pub record Closes (x : State) (feed : FeedView) (drain : DrainView) (y : State) : Type 0 where
  pub history : HasHistory x feed.turns drain.turns y
  pub fed : y.fed ≡ feed.flow
  pub taken : y.taken ≡ drain.flow
  pub horizon : y.horizon ≡ x.horizon
  pub spec : y.spec ≡ x.spec
  pub broken : (feed.broken ≡ true) ⊎ (drain.broken ≡ true) → y.broken ≡ true

one_knows : (f d : Bool) → (f ≡ true) ⊎ (d ≡ true) → (f || d) ≡ true
one_knows true d knows = refl
one_knows false d knows = ⊎_elim (λ f. absurd (cc)) (λ e. e) knows

closes_here : (x : State) (id id' : TableId) (f d : View) (y : State) → Closed x f d y
    → Closes x (feed_seat id f) (drain_seat id' d) y
closes_here x id id' f d y end = record {
  history = (end.turns, end.past);
  fed = end.past.fed_is;
  taken = end.past.taken_is;
  horizon = end.past.horizon;
  spec = end.past.spec;
  broken = λ knows. end.right (one_knows f.broken d.broken knows);
}

pub close_shows : (x x' : State) (id id' : TableId) (f d : View) (feed : FeedView) (drain : DrainView) (y : State)
    → x ≡ x' → feed_seat id f ≡ feed → drain_seat id' d ≡ drain → Closed x f d y → Closes x' feed drain y
close_shows x x' id id' f d feed drain y same fed drained end =
    subst (λ (t : State × (FeedView × DrainView)). Closes t.0 t.1.0 t.1.1 y) (λ k. (same k, (fed k, drained k)))
    (closes_here x id id' f d y end)
