-- Each step keeps the rule.
use Rattle.std.proofs.Common.{◌≡◌, Bool, true, false, ◌||◌, ℕ, zero, suc, ◌+◌, ◌*◌, ◌%◌, ◌<◌, List, [], ◌∷◌, ◌++◌}
use Rattle.std.proofs.Common.{Option, Some, None, eqb, get_or, set, refl, sym, ap, ◌∙◌, subst, arith, eq-eqb, ne_eqb}
use Rattle.std.proofs.Common.{◌⊎◌, ⊎_elim}
use mathlib.Core.Logic.{dite}
use native.Mathlib.Decide.{ℕ_discrete}
use mathlib.Core.Option.{some, none, some-injective, some-ne-none}
use lib.ListN.{get_elem?}
use lib.Seq.{set-get_or}
use prog.Atomic.{either}
use Rattle.std.proofs.lemmas.List.Elements.{All-nil}
use Rattle.std.specs.Prelude.{All}
use Rattle.atomic_table.specs.Table.{State as TableState, step, keeps, takes, gives, stepped, opening, Allows, Splits}
use Rattle.atomic_table.specs.Table.{Joins, Final, Seen}
use Rattle.atomic_table.proofs.Lists.{set_again}
use Rattle.packet_record.specs.declared.item.Item.{Item}
use Rattle.packet_record.specs.Streams.{no_items}
use Rattle.shell_state.specs.States.{State}
use Rattle.shell_state.specs.Steps.{after_feed}
use Rattle.shell_cell.specs.declared.view.DrainCall.{DrainCall}
use Rattle.shell_cell.specs.declared.view.FeedTurn.{FeedTurn}
use Rattle.shell_cell.specs.declared.view.DrainTurn.{DrainTurn}
use Rattle.shell_cell.specs.declared.view.Note.{Note}
use Rattle.shell_cell.specs.declared.view.View.{View}
use Rattle.shell_cell.specs.declared.view.SeatRole.{SeatRole}
use Rattle.shell_cell.specs.declared.view.SeatRole.TheVariants.{Whole, Feeder, Drain, Joined}
use Rattle.shell_cell.specs.declared.view.Call.{Call}
use Rattle.shell_cell.specs.declared.view.Call.TheVariants.{Feeds, Drains}
use Rattle.shell_cell.specs.History.{IsPast, fed_flow, taken_flow, MayFeed, Answers, after_drain}
use Rattle.shell_cell.specs.inside.Rule.{Stage, whole, shared, joined, Holder, nobody, feeder, drain, view, spent_view}
use Rattle.shell_cell.specs.inside.Rule.{note_of, views_of, feeder_note, drain_note, word_of, home_of, Settles, Kept}
use Rattle.shell_cell.specs.inside.Rule.{Place, IsMade, after_call, IsEnd, IsDone, IsUndone, with_note, Claimed, claims}
use Rattle.shell_cell.specs.inside.Rule.{gives_up, without_note, broken_in, broken_by, number_in, with_turn, IsAbove}
use Rattle.shell_cell.specs.inside.Rule.{spends, left_of, right_of, both_of}
use Rattle.shell_cell.proofs.Histories.{drain_broken, goes_on_fed, goes_on_drained, all_fed, all_drained, no_past}
use Rattle.shell_cell.proofs.Seating.{SitsAt, feeder_sits, drain_sits, whole_sits, joined_sits, even_is_free}
use Rattle.shell_cell.proofs.Seating.{feeder_holds, drain_holds, none_hold}

abbrev St : Type 0
St = TableState State View

module _ (x : State) where
  abbrev word : St → ℕ
  word s = get_or s.words 0 0

  word_is : (s : St) (r : Kept x s) → word s ≡ word_of r.holder r.turns
  word_is s r = ap (λ (l : List ℕ). get_or l 0 0) r.words

  abbrev note : (s : St) → Kept x s → Note
  note s r = note_of r.turns r.left

  -- a step that changes nothing
  unmoved : (s : St) (r : Kept x s) (id : ℕ) (me : Place) → get_elem? s.views id ≡ some me.0
      → Kept x (stepped s 0 (word s) id me.1 me.0 keeps)
  unmoved s r id me at = record {
    stage = r.stage;
    holder = r.holder;
    turns = r.turns;
    fed = r.fed;
    drained = r.drained;
    feeder_found = r.feeder_found;
    drain_found = r.drain_found;
    left = r.left;
    past = r.past;
    feeder_right = r.feeder_right;
    drain_right = r.drain_right;
    settles = r.settles;
    views = set_again s.views id me.0 at ∙ r.views;
    words = set-get_or s.words 0 0 ∙ r.words;
    homes = r.homes;
  }

  feeder_at : (s : St) (r : Kept x s) (id : ℕ) (v : View) → get_elem? s.views id ≡ some v → v.role ≡ Feeder
      → SitsAt r.stage shared id 0 v (view Feeder x r.fed [] r.feeder_found (feeder_note r.holder (note s r)))
  feeder_at s r id v at role = feeder_sits r.stage x r.fed r.drained _ _ _ _ id v
      (subst (λ (l : List View). get_elem? l id ≡ some v) r.views at) role

  drain_at : (s : St) (r : Kept x s) (id : ℕ) (v : View) → get_elem? s.views id ≡ some v → v.role ≡ Drain
      → SitsAt r.stage shared id 1 v (view Drain x [] r.drained r.drain_found (drain_note r.holder (note s r)))
  drain_at s r id v at role = drain_sits r.stage x r.fed r.drained _ _ _ _ id v
      (subst (λ (l : List View). get_elem? l id ≡ some v) r.views at) role

  -- the views, where the feeder's becomes w
  set_feeder : (views : List View) (stage : Stage) (fed : List FeedTurn) (drained : List DrainTurn) (f d : Bool)
      (a b : Option Note) (id : ℕ) (w : View) → views ≡ views_of stage x fed drained f d a b → stage ≡ shared → id ≡ 0
      → set views id w ≡ w ∷ view Drain x [] drained d b ∷ []
  set_feeder views stage fed drained f d a b id w e s i = rw (e, s, i) refl

  set_drain : (views : List View) (stage : Stage) (fed : List FeedTurn) (drained : List DrainTurn) (f d : Bool)
      (a b : Option Note) (id : ℕ) (w : View) → views ≡ views_of stage x fed drained f d a b → stage ≡ shared → id ≡ 1
      → set views id w ≡ view Feeder x fed [] f a ∷ w ∷ []
  set_drain views stage fed drained f d a b id w e s i = rw (e, s, i) refl

  -- the feeder takes the turn
  feeder_claims : (s : St) (r : Kept x s) (id new : ℕ) (me : Place) → get_elem? s.views id ≡ some me.0
      → me.0.role ≡ Feeder → r.holder ≡ nobody → new ≡ 2 * r.turns + 1
      → Kept x (stepped s 0 new id me.1 (with_note me.0 (Some (note s r))) (takes 0 r.left))
  feeder_claims s r id new me at role free up = let sits = feeder_at s r id me.0 at role in record {
    stage = shared;
    holder = feeder;
    turns = r.turns;
    fed = r.fed;
    drained = r.drained;
    feeder_found = r.feeder_found;
    drain_found = r.drain_found;
    left = r.left;
    past = r.past;
    feeder_right = r.feeder_right;
    drain_right = r.drain_right;
    settles = tt;
    views = set_feeder s.views r.stage r.fed r.drained _ _ _ _ id _ r.views sits.stage_is sits.place_is
        ∙ (λ k. with_note (sits.view_is k) (Some (note s r)) ∷ view Drain x [] r.drained r.drain_found
        (drain_note (free k) (note s r)) ∷ []);
    words = ap (λ (l : List ℕ). set l 0 new) r.words ∙ ap (λ (n : ℕ). n ∷ []) up;
    homes = ap (λ (l : List (mathlib.Core.Option.Option State)). set l 0 none) r.homes;
  }

  drain_claims : (s : St) (r : Kept x s) (id new : ℕ) (me : Place) → get_elem? s.views id ≡ some me.0
      → me.0.role ≡ Drain → r.holder ≡ nobody → new ≡ 2 * r.turns + 1
      → Kept x (stepped s 0 new id me.1 (with_note me.0 (Some (note s r))) (takes 0 r.left))
  drain_claims s r id new me at role free up = let sits = drain_at s r id me.0 at role in record {
    stage = shared;
    holder = drain;
    turns = r.turns;
    fed = r.fed;
    drained = r.drained;
    feeder_found = r.feeder_found;
    drain_found = r.drain_found;
    left = r.left;
    past = r.past;
    feeder_right = r.feeder_right;
    drain_right = r.drain_right;
    settles = tt;
    views = set_drain s.views r.stage r.fed r.drained _ _ _ _ id _ r.views sits.stage_is sits.place_is
        ∙ (λ k. view Feeder x r.fed [] r.feeder_found (feeder_note (free k) (note s r)) ∷ with_note (sits.view_is k)
        (Some (note s r)) ∷ []);
    words = ap (λ (l : List ℕ). set l 0 new) r.words ∙ ap (λ (n : ℕ). n ∷ []) up;
    homes = ap (λ (l : List (mathlib.Core.Option.Option State)). set l 0 none) r.homes;
  }

  home_is : (s : St) (r : Kept x s) → r.holder ≡ nobody → get_elem? s.homes 0 ≡ some (some r.left)
  home_is s r free = rw (r.homes, free) refl

  -- what the taken state has in common with the view
  claimed : (s : St) (r : Kept x s) (id : ℕ) (me : Place) (w : ℕ) → get_elem? s.views id ≡ some me.0
      → (me.0.role ≡ Feeder) ⊎ (me.0.role ≡ Drain) → r.holder ≡ nobody → w ≡ word s
      → Claimed me w (with_note me.0 (Some (note s r)), (0, r.left) ∷ me.1)
  claimed s r id me w at role free is = record {
    spent = r.turns;
    state = r.left;
    even = is ∙ (word_is s r ∙ ap (λ (h : Holder). word_of h r.turns) free);
    holds = refl;
    fed_is = λ f. let sits = feeder_at s r id me.0 at f in r.past.fed_is
        ∙ ap (λ (v : View). fed_flow v.fed) (sym sits.view_is);
    taken_is = λ d. let sits = drain_at s r id me.0 at d in r.past.taken_is
        ∙ ap (λ (v : View). taken_flow v.drained) (sym sits.view_is);
    broken = ⊎_elim
        (λ f. let sits = feeder_at s r id me.0 at f
        in λ knows. r.feeder_right (ap (λ (v : View). v.broken) (sym sits.view_is) ∙ knows))
        (λ d. let sits = drain_at s r id me.0 at d
        in λ knows. r.drain_right (ap (λ (v : View). v.broken) (sym sits.view_is) ∙ knows))
        role;
    horizon = r.past.horizon ∙ ⊎_elim
        (λ f. let sits = feeder_at s r id me.0 at f in ap (λ (v : View). v.opening.horizon) (sym sits.view_is))
        (λ d. let sits = drain_at s r id me.0 at d in ap (λ (v : View). v.opening.horizon) (sym sits.view_is))
        role;
    spec = r.past.spec ∙ ⊎_elim
        (λ f. let sits = feeder_at s r id me.0 at f in ap (λ (v : View). v.opening.spec) (sym sits.view_is))
        (λ d. let sits = drain_at s r id me.0 at d in ap (λ (v : View). v.opening.spec) (sym sits.view_is))
        role;
  }

  pub claims_turn : (slots id : ℕ) (me : Place) (old new : ℕ) → (me.0.role ≡ Feeder) ⊎ (me.0.role ≡ Drain)
      → old % 2 ≡ 0 → new ≡ old + 1
      → Allows (Kept x) slots id me 0 (λ n. either (eqb n old) new n) (claims (step slots 0 old new none) me)
  claims_turn slots id me old new role even up s r _ at _ = dite (ℕ_discrete (word s) old)
      (λ hit. let is = word_is s r in let free : r.holder ≡ nobody = even_is_free r.holder r.turns (word s) (sym is)
      (ap (λ (z : ℕ). z % 2) hit ∙ even) in
      let now : word s ≡ 2 * r.turns = is ∙ ap (λ (h : Holder). word_of h r.turns) free in (
        with_note me.0 (Some (note s r)),
        takes 0 r.left,
        home_is s r free,
        subst (λ b. Kept x (stepped s 0 (either b new (word s)) id me.1 (with_note me.0 (Some (note s r)))
            (takes 0 r.left))) (sym (eq-eqb (word s) old hit))
            (⊎_elim (λ f. feeder_claims s r id new me at f free (omega arith))
            (λ d. drain_claims s r id new me at d free (omega arith)) role),
        ((λ _. claimed s r id me (word s) at role free refl), λ not. absurd (not hit)),
      ))
      (λ miss. (
        me.0,
        keeps,
        tt,
        subst (λ b. Kept x (stepped s 0 (either b new (word s)) id me.1 me.0 keeps))
            (sym (ne_eqb (word s) old miss)) (unmoved s r id me at),
        ((λ hit. absurd (miss hit)), λ _. refl),
      ))

  abbrev put : State → List (ℕ × State) → List (ℕ × State)
  put y cs = (0, y) ∷ cs

  -- the feeder gives the turn back: then n turns are spent, and the state at home is y
  feeder_frees : (s : St) (r : Kept x s) (id new n : ℕ) (v w : View) (cs : List (ℕ × State)) (y : State)
      (fed : List FeedTurn) (found : Bool)
      → get_elem? s.views id ≡ some v → v.role ≡ Feeder → r.holder ≡ feeder → new ≡ 2 * n → IsPast x fed r.drained n y
      → w ≡ view Feeder x fed [] found None
      → (found ≡ true → y.broken ≡ true) → (r.drain_found ≡ true → y.broken ≡ true)
      → Kept x (stepped s 0 new id (put y cs) w gives)
  feeder_frees s r id new n v w cs y fed found at role mine up past is right other = let sits =
      feeder_at s r id v at role in record {
        stage = shared;
        holder = nobody;
        turns = n;
        fed = fed;
        drained = r.drained;
        feeder_found = found;
        drain_found = r.drain_found;
        left = y;
        past = past;
        feeder_right = right;
        drain_right = other;
        settles = tt;
        views = set_feeder s.views r.stage r.fed r.drained _ _ _ _ id w r.views sits.stage_is sits.place_is
            ∙ (λ k. is k ∷ view Drain x [] r.drained r.drain_found (drain_note (mine k) (note s r)) ∷ []);
        words = ap (λ (l : List ℕ). set l 0 new) r.words ∙ ap (λ (n : ℕ). n ∷ []) up;
        homes = ap (λ (l : List (mathlib.Core.Option.Option State)). set l 0 (some y)) r.homes;
      }

  drain_frees : (s : St) (r : Kept x s) (id new n : ℕ) (v w : View) (cs : List (ℕ × State)) (y : State)
      (drained : List DrainTurn) (found : Bool)
      → get_elem? s.views id ≡ some v → v.role ≡ Drain → r.holder ≡ drain → new ≡ 2 * n → IsPast x r.fed drained n y
      → w ≡ view Drain x [] drained found None
      → (found ≡ true → y.broken ≡ true) → (r.feeder_found ≡ true → y.broken ≡ true)
      → Kept x (stepped s 0 new id (put y cs) w gives)
  drain_frees s r id new n v w cs y drained found at role mine up past is right other = let sits =
      drain_at s r id v at role in record {
        stage = shared;
        holder = nobody;
        turns = n;
        fed = r.fed;
        drained = drained;
        feeder_found = r.feeder_found;
        drain_found = found;
        left = y;
        past = past;
        feeder_right = other;
        drain_right = right;
        settles = tt;
        views = set_drain s.views r.stage r.fed r.drained _ _ _ _ id w r.views sits.stage_is sits.place_is
            ∙ (λ k. view Feeder x r.fed [] r.feeder_found (feeder_note (mine k) (note s r)) ∷ is k ∷ []);
        words = ap (λ (l : List ℕ). set l 0 new) r.words ∙ ap (λ (n : ℕ). n ∷ []) up;
        homes = ap (λ (l : List (mathlib.Core.Option.Option State)). set l 0 (some y)) r.homes;
      }

  -- a seat whose view has a note holds the turn, and the note is right
  pub record Mine (s : St) (r : Kept x s) (v : View) (m : Note) (holder : Holder) (role : SeatRole)
      (fed : List FeedTurn) (drained : List DrainTurn) : Type 0 where
    pub holds : r.holder ≡ holder
    pub state : r.left ≡ m.state
    pub turns : r.turns ≡ m.spent
    pub role_is : v.role ≡ role
    pub opening_is : v.opening ≡ x
    pub fed_is : v.fed ≡ fed
    pub drained_is : v.drained ≡ drained

  feeder_mine : (s : St) (r : Kept x s) (id : ℕ) (v : View) (m : Note) → get_elem? s.views id ≡ some v
      → v.role ≡ Feeder → v.note ≡ Some m → Mine s r v m feeder Feeder r.fed []
  feeder_mine s r id v m at role has = let sits = feeder_at s r id v at role
      in let h = feeder_holds r.holder (note s r) m (ap (λ (u : View). u.note) (sym sits.view_is) ∙ has) in record {
        holds = h.0;
        state = ap (λ (k : Note). k.state) h.1;
        turns = ap (λ (k : Note). k.spent) h.1;
        role_is = role;
        opening_is = ap (λ (u : View). u.opening) sits.view_is;
        fed_is = ap (λ (u : View). u.fed) sits.view_is;
        drained_is = ap (λ (u : View). u.drained) sits.view_is;
      }

  drain_mine : (s : St) (r : Kept x s) (id : ℕ) (v : View) (m : Note) → get_elem? s.views id ≡ some v → v.role ≡ Drain
      → v.note ≡ Some m → Mine s r v m drain Drain [] r.drained
  drain_mine s r id v m at role has = let sits = drain_at s r id v at role
      in let h = drain_holds r.holder (note s r) m (ap (λ (u : View). u.note) (sym sits.view_is) ∙ has) in record {
        holds = h.0;
        state = ap (λ (k : Note). k.state) h.1;
        turns = ap (λ (k : Note). k.spent) h.1;
        role_is = role;
        opening_is = ap (λ (u : View). u.opening) sits.view_is;
        fed_is = ap (λ (u : View). u.fed) sits.view_is;
        drained_is = ap (λ (u : View). u.drained) sits.view_is;
      }

  feeder_gives_up : (s : St) (r : Kept x s) (id new : ℕ) (v : View) (cs : List (ℕ × State)) (m : Note)
      → get_elem? s.views id ≡ some v → v.role ≡ Feeder → v.note ≡ Some m → new ≡ 2 * m.spent
      → Kept x (stepped s 0 new id (put m.state cs) (without_note v) gives)
  feeder_gives_up s r id new v cs m at role has up = let mine = feeder_mine s r id v m at role has in
      subst (λ (y : State). Kept x (stepped s 0 new id (put y cs) (without_note v) gives)) mine.state
      (feeder_frees s r id new r.turns v (without_note v) cs r.left r.fed r.left.broken at role mine.holds
      (up ∙ ap (λ (n : ℕ). 2 * n) (sym mine.turns)) r.past
      (λ k. view (mine.role_is k) (mine.opening_is k) (mine.fed_is k) (mine.drained_is k)
      ((ap broken_in has ∙ ap (λ (y : State). y.broken) (sym mine.state)) k) None)
      (λ b. b) r.drain_right)

  drain_gives_up : (s : St) (r : Kept x s) (id new : ℕ) (v : View) (cs : List (ℕ × State)) (m : Note)
      → get_elem? s.views id ≡ some v → v.role ≡ Drain → v.note ≡ Some m → new ≡ 2 * m.spent
      → Kept x (stepped s 0 new id (put m.state cs) (without_note v) gives)
  drain_gives_up s r id new v cs m at role has up = let mine = drain_mine s r id v m at role has in
      subst (λ (y : State). Kept x (stepped s 0 new id (put y cs) (without_note v) gives)) mine.state
      (drain_frees s r id new r.turns v (without_note v) cs r.left r.drained r.left.broken at role mine.holds
      (up ∙ ap (λ (n : ℕ). 2 * n) (sym mine.turns)) r.past
      (λ k. view (mine.role_is k) (mine.opening_is k) (mine.fed_is k) (mine.drained_is k)
      ((ap broken_in has ∙ ap (λ (y : State). y.broken) (sym mine.state)) k) None)
      (λ b. b) r.feeder_right)

  gives_turn_up : (slots id new : ℕ) (v : View) (m : Note) → (v.role ≡ Feeder) ⊎ (v.role ≡ Drain) → v.note ≡ Some m
      → new ≡ 2 * m.spent
      → Allows (Kept x) slots id (v, put m.state []) 0 (λ _. new)
      (λ _. gives_up (step slots 0 new 0 none) (v, put m.state []) new)
  gives_turn_up slots id new v m role has up s r _ at _ = (
    without_note v,
    gives,
    tt,
    ⊎_elim (λ f. feeder_gives_up s r id new v [] m at f has up)
        (λ d. drain_gives_up s r id new v [] m at d has up) role,
    refl,
  )

  above_feeder : (s : St) (r : Kept x s) (v : View) (m : Note) (k : ℕ) → Mine s r v m feeder Feeder r.fed []
      → k ≡ suc r.turns → IsAbove v k
  above_feeder s r v m k mine up =
      let P : List FeedTurn × List DrainTurn × ℕ → Type 0 = λ z. All (λ (t : FeedTurn). t.number < z.2) z.0
      × All (λ (t : DrainTurn). t.number < z.2) z.1 in
      subst P (λ i. (sym mine.fed_is i, sym mine.drained_is i, sym up i))
      (all_fed r.fed r.drained r.turns r.past.history.numbered, All-nil _)

  above_drain : (s : St) (r : Kept x s) (v : View) (m : Note) (k : ℕ) → Mine s r v m drain Drain [] r.drained
      → k ≡ suc r.turns → IsAbove v k
  above_drain s r v m k mine up =
      let P : List FeedTurn × List DrainTurn × ℕ → Type 0 = λ z. All (λ (t : FeedTurn). t.number < z.2) z.0
      × All (λ (t : DrainTurn). t.number < z.2) z.1 in
      subst P (λ i. (sym mine.fed_is i, sym mine.drained_is i, sym up i))
      (All-nil _, all_drained r.fed r.drained r.turns r.past.history.numbered)

  feeder_spends : (s : St) (r : Kept x s) (id new : ℕ) (item : Item) (v : View) (cs : List (ℕ × State))
      (m : Note) → get_elem? s.views id ≡ some v → v.role ≡ Feeder → v.note ≡ Some m → MayFeed m.state item
      → new ≡ 2 * m.spent + 2
      → Kept x (stepped s 0 new id (put (after_feed m.state item) cs) (with_turn v (Feeds item)) gives)
      × IsAbove v (number_in v.note)
  feeder_spends s r id new item v cs m at role has may up = let mine = feeder_mine s r id v m at role has in
      let t : FeedTurn = record { number = number_in v.note; item = item } in
      let turns : r.turns ≡ m.spent = mine.turns in
      let number : number_in v.note ≡ suc r.turns = ap number_in has ∙ ap suc (sym turns) in
      let may' : MayFeed r.left item = subst (λ (z : State). MayFeed z item) (sym mine.state) may in (
        subst (λ (z : State). Kept x (stepped s 0 new id (put (after_feed z item) cs) (with_turn v (Feeds item))
            gives)) mine.state
            (feeder_frees s r id new (suc r.turns) v (with_turn v (Feeds item)) cs (after_feed r.left item)
            (r.fed ++ t ∷ []) (after_feed r.left item).broken at role mine.holds (omega arith)
            (goes_on_fed x r.fed r.drained r.turns r.left t r.past number may')
            (λ k. view (mine.role_is k) (mine.opening_is k) (mine.fed_is k ++ t ∷ []) (mine.drained_is k)
            ((ap (broken_by (Feeds item)) has ∙ ap (λ (y : State). (after_feed y item).broken) (sym mine.state))
            k) None)
            (λ b. b)
            (λ knows. let broken = r.drain_right knows in let whole_state : r.left.broken ≡ false = may'.0
            in absurd (cc))),
        above_feeder s r v m (number_in v.note) mine number,
      )

  drain_spends : (s : St) (r : Kept x s) (id new : ℕ) (call : DrainCall) (v : View) (cs : List (ℕ × State))
      (m : Note) → get_elem? s.views id ≡ some v → v.role ≡ Drain → v.note ≡ Some m → Answers m.state call
      → new ≡ 2 * m.spent + 2
      → Kept x (stepped s 0 new id (put (after_drain m.state call) cs) (with_turn v (Drains call)) gives)
      × IsAbove v (number_in v.note)
  drain_spends s r id new call v cs m at role has right up = let mine = drain_mine s r id v m at role has in
      let t : DrainTurn = record { number = number_in v.note; call = call } in
      let turns : r.turns ≡ m.spent = mine.turns in
      let number : number_in v.note ≡ suc r.turns = ap number_in has ∙ ap suc (sym turns) in (
        subst (λ (z : State). Kept x (stepped s 0 new id (put (after_drain z call) cs) (with_turn v (Drains call))
            gives)) mine.state
            (drain_frees s r id new (suc r.turns) v (with_turn v (Drains call)) cs (after_drain r.left call)
            (r.drained ++ t ∷ []) (after_drain r.left call).broken at role mine.holds (omega arith)
            (goes_on_drained x r.fed r.drained r.turns r.left t r.past number
            (subst (λ (z : State). Answers z call) (sym mine.state) right))
            (λ k. view (mine.role_is k) (mine.opening_is k) (mine.fed_is k) (mine.drained_is k ++ t ∷ [])
            ((ap (broken_by (Drains call)) has ∙ ap (λ (y : State). (after_drain y call).broken) (sym mine.state))
            k) None)
            (λ b. b)
            (λ knows. drain_broken r.left call (r.feeder_right knows))),
        above_drain s r v m (number_in v.note) mine number,
      )

  spends_call : (call : Call) (slots id new : ℕ) (v : View) (m : Note) → v.note ≡ Some m → new ≡ 2 * m.spent + 2
      → IsMade call v.role m.state
      → Allows (Kept x) slots id (v, put (after_call call m.state) []) 0 (λ _. new)
      (λ _. spends call (step slots 0 new 0 none) (v, put (after_call call m.state) []) new)
  spends_call (Feeds item) slots id new v m has up made s r _ at _ = let t = feeder_spends s r id new item v [] m at
      made.0 has made.1 up in (with_turn v (Feeds item), gives, tt, t.0, (refl, t.1))
  spends_call (Drains call) slots id new v m has up made s r _ at _ = let t = drain_spends s r id new call v [] m at
      made.0 has made.1 up in (with_turn v (Drains call), gives, tt, t.0, (refl, t.1))

  pub spends_turn : (call : Call) (slots id word new : ℕ) (me : Place) → IsDone call me word → new ≡ word + 1
      → Allows (Kept x) slots id me 0 (λ _. new) (λ _. spends call (step slots 0 new 0 none) me new)
  spends_turn call slots id word new me done up = let odd = done.odd in
      subst (λ (cs : List (ℕ × State)). Allows (Kept x) slots id (me.0, cs) 0 (λ _. new)
      (λ _. spends call (step slots 0 new 0 none) (me.0, cs) new)) (sym done.carried)
      (spends_call call slots id new me.0 done.note done.has (omega arith) done.made)

  pub undoes_turn : (slots id word new : ℕ) (me : Place) → IsUndone me word → new + 1 ≡ word
      → Allows (Kept x) slots id me 0 (λ _. new) (λ _. gives_up (step slots 0 new 0 none) me new)
  undoes_turn slots id word new me undone up = let odd = undone.odd in
      subst (λ (cs : List (ℕ × State)). Allows (Kept x) slots id (me.0, cs) 0 (λ _. new)
      (λ _. gives_up (step slots 0 new 0 none) (me.0, cs) new)) (sym undone.carried)
      (gives_turn_up slots id new me.0 undone.note undone.role undone.has (omega arith))

  -- the table at the start
  pub opens : x.fed ≡ no_items → x.taken ≡ no_items
      → Kept x (opening (0 ∷ []) (x ∷ []) (view Whole x [] [] false None))
  opens fed taken = record {
    stage = whole;
    holder = nobody;
    turns = 0;
    fed = [];
    drained = [];
    feeder_found = false;
    drain_found = false;
    left = x;
    past = no_past x fed taken;
    feeder_right = λ e. absurd (cc);
    drain_right = λ e. absurd (cc);
    settles = refl;
    views = refl;
    words = refl;
    homes = refl;
  }

  whole_is : (stage : Stage) (holder : Holder) → stage ≡ whole → Settles stage holder → holder ≡ nobody
  whole_is whole holder e settles = settles
  whole_is shared holder e settles = absurd (cc)
  whole_is joined holder e settles = settles

  joined_is : (stage : Stage) (holder : Holder) → stage ≡ joined → Settles stage holder → holder ≡ nobody
  joined_is whole holder e settles = settles
  joined_is shared holder e settles = absurd (cc)
  joined_is joined holder e settles = settles

  pub parts : (id : ℕ) (v : View) → v.role ≡ Whole → Splits (Kept x) id v (left_of v) (right_of v)
  parts id v role s r at = let sits = whole_sits r.stage x r.fed r.drained _ _ _ _ id v
      (subst (λ (l : List View). get_elem? l id ≡ some v) r.views at) role in
      let free = whole_is r.stage r.holder sits.stage_is r.settles in
      let is = sits.view_is in record {
        stage = shared;
        holder = nobody;
        turns = r.turns;
        fed = r.fed;
        drained = r.drained;
        feeder_found = false;
        drain_found = false;
        left = r.left;
        past = r.past;
        feeder_right = λ e. absurd (cc);
        drain_right = λ e. absurd (cc);
        settles = tt;
        views = rw (r.views, sits.stage_is, sits.place_is, is) refl;
        words = r.words ∙ ap (λ (h : Holder). word_of h r.turns ∷ []) free;
        homes = r.homes ∙ ap (λ (h : Holder). home_of h r.left ∷ []) free;
      }

  -- the drain's seat after the feeder's view has become that of both
  other_is : (u : View) (drained : List DrainTurn) (d : Bool) (b : Option Note) (other : ℕ) (w : View) → ¬ (other ≡ 0)
      → get_elem? (u ∷ view Drain x [] drained d b ∷ []) other ≡ some w → (other ≡ 1)
      × (w ≡ view Drain x [] drained d b)
  other_is u drained d b zero w apart e = absurd (apart refl)
  other_is u drained d b (suc zero) w apart e = (refl, sym (some-injective _ w e))
  other_is u drained d b (suc (suc other)) w apart e = absurd (some-ne-none w (sym e))

  pub unites : (id other : ℕ) (v w : View) → v.role ≡ Feeder → v.note ≡ None → w.note ≡ None
      → Joins (Kept x) id v other w (both_of v w) spent_view
  unites id other v w role free free' s r at apart seen =
      let sits = feeder_at s r id v at role in
      let now = set_feeder s.views r.stage r.fed r.drained _ _ _ _ id (both_of v w) r.views sits.stage_is
      sits.place_is in
      let there = other_is (both_of v w) r.drained r.drain_found (drain_note r.holder (note s r)) other w
      (λ z. apart (z ∙ sym sits.place_is)) (subst (λ (l : List View). get_elem? l other ≡ some w) now seen) in
      let nobodys : r.holder ≡ nobody = none_hold r.holder (note s r) (ap (λ (u : View). u.note) (sym sits.view_is)
      ∙ free) (ap (λ (u : View). u.note) (sym there.1) ∙ free') in record {
        stage = joined;
        holder = nobody;
        turns = r.turns;
        fed = r.fed;
        drained = r.drained;
        feeder_found = r.feeder_found;
        drain_found = r.drain_found;
        left = r.left;
        past = r.past;
        feeder_right = r.feeder_right;
        drain_right = r.drain_right;
        settles = refl;
        views = (λ k. set (now k) (there.0 k) spent_view)
            ∙ (λ k. both_of (sits.view_is k) (there.1 k) ∷ spent_view ∷ []);
        words = r.words ∙ ap (λ (h : Holder). word_of h r.turns ∷ []) nobodys;
        homes = r.homes ∙ ap (λ (h : Holder). home_of h r.left ∷ []) nobodys;
      }

  one_found : (f d b : Bool) → (f ≡ true → b ≡ true) → (d ≡ true → b ≡ true) → (f || d) ≡ true → b ≡ true
  one_found true d b first second e = first refl
  one_found false d b first second e = second e

  pub ends : (id : ℕ) (v : View) (words : List ℕ) (slots : List State) → v.role ≡ Joined
      → Final (Seen (Kept x) id v) words slots → IsEnd x v slots
  ends id v words slots role final = let s = final.0 in let r = final.1.0 in
      let sits = joined_sits r.stage x r.fed r.drained _ _ _ _ id v
      (subst (λ (l : List View). get_elem? l id ≡ some v) r.views final.1.1) role in
      let free = joined_is r.stage r.holder sits.stage_is r.settles in record {
        turns = r.turns;
        left = r.left;
        past = subst (λ (u : View). IsPast x u.fed u.drained r.turns r.left) (sym sits.view_is) r.past;
        right = λ knows. one_found r.feeder_found r.drain_found r.left.broken r.feeder_right r.drain_right
            (ap (λ (u : View). u.broken) (sym sits.view_is) ∙ knows);
        found = final.4 0 r.left (home_is s r free);
      }
