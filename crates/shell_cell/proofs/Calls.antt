-- What the calls of a cell show of the steps that they make.
use Rattle.std.proofs.Common.{◌≡◌, true, false, ℕ, List, [], ◌∷◌, ◌||◌, None, sym, ap, ◌∙◌, subst}
use Rattle.std.proofs.Common.{◌⊎◌}
use mathlib.Core.Option.{some, some-injective}
use lib.ListN.{get_elem?}
use Rattle.atomic_table.specs.Table.{rest, Splits, Final, Seen}
use Rattle.packet_record.specs.declared.item.Item.{Item}
use Rattle.shell_state.specs.States.{State}
use Rattle.shell_state.specs.Steps.{after_feed}
use Rattle.shell_cell.specs.declared.view.DrainCall.{DrainCall}
use Rattle.shell_cell.specs.declared.view.View.{View}
use Rattle.shell_cell.specs.declared.view.SeatRole.TheVariants.{Whole, Feeder, Drain}
use Rattle.shell_cell.specs.declared.view.Call.TheVariants.{Feeds, Drains}
use Rattle.shell_cell.specs.History.{IsPast, MayFeed, Answers, after_drain}
use Rattle.shell_cell.specs.inside.Rule.{view, note_of, Kept, Place, IsDone, IsUndone, IsTaken, HasTaken, left_of}
use Rattle.shell_cell.specs.inside.Rule.{right_of, both_of}
use Rattle.shell_cell.proofs.Keeps.{parts, ends}

-- the first of the slots that a seat has taken
abbrev first_slot : State → List (ℕ × State) → State
first_slot y [] = y
first_slot y (c ∷ cs) = c.1

-- what is in the slot of the seat that has the turn is the state that it took
pub in_slot : (before at : Place) (word : ℕ) (y : State) → HasTaken before word at → at.1 ≡ (0, y) ∷ rest at.1
    → IsTaken before word y at
in_slot before at word y taken here = subst (λ (z : State). IsTaken before word z at)
    (ap (first_slot y) (sym (ap (λ (p : Place). p.1) taken.1.holds) ∙ here)) taken.1

pub parts_of : (x y : State) (id : ℕ) (m : Place) → m ≡ (view Whole y [] [] false None, [])
    → Splits (Kept x) id m.0 (left_of m.0) (right_of m.0)
parts_of x y id m is = parts x id m.0 (ap (λ (p : Place). p.0.role) is)

-- the seat that has taken this state has nothing else
alone : (before at : Place) (word : ℕ) (y z : State) → IsTaken before word y at → (0, z) ∷ rest at.1 ≡ (0, z) ∷ []
alone before at word y z taken = ap (λ (p : Place). (0, z) ∷ rest p.1) taken.holds

pub may_feed : (before at : Place) (word : ℕ) (item : Item) (y z : State) → IsTaken before word y at
    → before.0.role ≡ Feeder → MayFeed y item → z ≡ after_feed y item
    → IsDone (Feeds item) (at.0, (0, z) ∷ rest at.1) word
may_feed before at word item y z taken role may leaves = record {
  note = note_of taken.spent y;
  has = ap (λ (p : Place). p.0.note) taken.holds;
  odd = taken.odd;
  made = (ap (λ (p : Place). p.0.role) taken.holds ∙ role, may);
  carried = alone before at word y z taken ∙ ap (λ (w : State). (0, w) ∷ []) leaves;
}

pub may_drain : (before at : Place) (word : ℕ) (call : DrainCall) (y z : State) → IsTaken before word y at
    → before.0.role ≡ Drain → Answers y call → z ≡ after_drain y call
    → IsDone (Drains call) (at.0, (0, z) ∷ rest at.1) word
may_drain before at word call y z taken role right leaves = record {
  note = note_of taken.spent y;
  has = ap (λ (p : Place). p.0.note) taken.holds;
  odd = taken.odd;
  made = (ap (λ (p : Place). p.0.role) taken.holds ∙ role, right);
  carried = alone before at word y z taken ∙ ap (λ (w : State). (0, w) ∷ []) leaves;
}

pub may_give_up : (before at : Place) (word : ℕ) (y z : State) → IsTaken before word y at
    → (before.0.role ≡ Feeder) ⊎ (before.0.role ≡ Drain) → z ≡ y → IsUndone (at.0, (0, z) ∷ rest at.1) word
may_give_up before at word y z taken role same = record {
  note = note_of taken.spent y;
  has = ap (λ (p : Place). p.0.note) taken.holds;
  odd = taken.odd;
  role = subst (λ (p : Place). (p.0.role ≡ Feeder) ⊎ (p.0.role ≡ Drain)) (sym taken.holds) role;
  carried = alone before at word y z taken ∙ ap (λ (w : State). (0, w) ∷ []) same;
}

-- what is known when a table is closed
pub record Closed (x : State) (f d : View) (found : State) : Type 0 where
  pub turns : ℕ
  pub past : IsPast x f.fed d.drained turns found
  pub right : (f.broken || d.broken) ≡ true → found.broken ≡ true

pub closes : (x : State) (id : ℕ) (m : Place) (f d : View) (words : List ℕ) (slots : List State) (found : State)
    → m.0 ≡ both_of f d → Final (Seen (Kept x) id m.0) words slots
    → get_elem? slots 0 ≡ some found
    → Closed x f d found
closes x id m f d words slots found is final at =
    let end = ends x id m.0 words slots (ap (λ (v : View). v.role) is) final in
    let same : end.left ≡ found = some-injective end.left found (sym end.found ∙ at) in record {
      turns = end.turns;
      past = subst (λ (p : View × State). IsPast x p.0.fed p.0.drained end.turns p.1) (λ k. (is k, same k)) end.past;
      right = λ knows. ap (λ (z : State). z.broken) (sym same)
          ∙ end.right (ap (λ (v : View). v.broken) is ∙ knows);
    }
