-- Which seat makes a step, from its role.
use Rattle.std.proofs.Common.{◌≡◌, Bool, false, ◌||◌, ℕ, zero, suc, ◌%◌, List, [], Option, Some, None, refl, sym, ap}
use Rattle.std.proofs.Common.{◌∙◌, arith}
use mathlib.Core.Option.{some, some-injective, some-ne-none}
use lib.ListN.{get_elem?}
use Rattle.shell_state.specs.States.{State}
use Rattle.shell_cell.specs.declared.view.FeedTurn.{FeedTurn}
use Rattle.shell_cell.specs.declared.view.DrainTurn.{DrainTurn}
use Rattle.shell_cell.specs.declared.view.Note.{Note}
use Rattle.shell_cell.specs.declared.view.View.{View}
use Rattle.shell_cell.specs.declared.view.SeatRole.{SeatRole}
use Rattle.shell_cell.specs.declared.view.SeatRole.TheVariants.{Whole, Feeder, Drain, Joined}
use Rattle.shell_cell.specs.inside.Rule.{Stage, whole, shared, joined, Holder, nobody, feeder, drain, view, views_of}
use Rattle.shell_cell.specs.inside.Rule.{feeder_note, drain_note, word_of}

pub record SitsAt (stage now : Stage) (id place : ℕ) (v w : View) : Type 0 where
  pub stage_is : stage ≡ now
  pub place_is : id ≡ place
  pub view_is : v ≡ w

-- a seat with this view and another role is none
other_role : (u v : View) (r : SeatRole) → some u ≡ some v → v.role ≡ r → u.role ≡ r
other_role u v r e is = ap (λ (w : View). w.role) (some-injective u v e) ∙ is

pub feeder_sits : (stage : Stage) (x : State) (fed : List FeedTurn) (drained : List DrainTurn) (f d : Bool)
    (a b : Option Note) (id : ℕ) (v : View)
    → get_elem? (views_of stage x fed drained f d a b) id ≡ some v → v.role ≡ Feeder
    → SitsAt stage shared id 0 v (view Feeder x fed [] f a)
feeder_sits whole x fed drained f d a b zero v e role = let k = other_role _ v Feeder e role in absurd (cc)
feeder_sits whole x fed drained f d a b (suc id) v e role = absurd (some-ne-none v (sym e))
feeder_sits shared x fed drained f d a b zero v e role =
    record { stage_is = refl; place_is = refl; view_is = sym (some-injective _ v e) }
feeder_sits shared x fed drained f d a b (suc zero) v e role = let k = other_role _ v Feeder e role in absurd (cc)
feeder_sits shared x fed drained f d a b (suc (suc id)) v e role = absurd (some-ne-none v (sym e))
feeder_sits joined x fed drained f d a b zero v e role = let k = other_role _ v Feeder e role in absurd (cc)
feeder_sits joined x fed drained f d a b (suc zero) v e role = let k = other_role _ v Feeder e role in absurd (cc)
feeder_sits joined x fed drained f d a b (suc (suc id)) v e role = absurd (some-ne-none v (sym e))

pub drain_sits : (stage : Stage) (x : State) (fed : List FeedTurn) (drained : List DrainTurn) (f d : Bool)
    (a b : Option Note) (id : ℕ) (v : View)
    → get_elem? (views_of stage x fed drained f d a b) id ≡ some v → v.role ≡ Drain
    → SitsAt stage shared id 1 v (view Drain x [] drained d b)
drain_sits whole x fed drained f d a b zero v e role = let k = other_role _ v Drain e role in absurd (cc)
drain_sits whole x fed drained f d a b (suc id) v e role = absurd (some-ne-none v (sym e))
drain_sits shared x fed drained f d a b zero v e role = let k = other_role _ v Drain e role in absurd (cc)
drain_sits shared x fed drained f d a b (suc zero) v e role =
    record { stage_is = refl; place_is = refl; view_is = sym (some-injective _ v e) }
drain_sits shared x fed drained f d a b (suc (suc id)) v e role = absurd (some-ne-none v (sym e))
drain_sits joined x fed drained f d a b zero v e role = let k = other_role _ v Drain e role in absurd (cc)
drain_sits joined x fed drained f d a b (suc zero) v e role = let k = other_role _ v Drain e role in absurd (cc)
drain_sits joined x fed drained f d a b (suc (suc id)) v e role = absurd (some-ne-none v (sym e))

pub whole_sits : (stage : Stage) (x : State) (fed : List FeedTurn) (drained : List DrainTurn) (f d : Bool)
    (a b : Option Note) (id : ℕ) (v : View)
    → get_elem? (views_of stage x fed drained f d a b) id ≡ some v → v.role ≡ Whole
    → SitsAt stage whole id 0 v (view Whole x fed drained false None)
whole_sits whole x fed drained f d a b zero v e role =
    record { stage_is = refl; place_is = refl; view_is = sym (some-injective _ v e) }
whole_sits whole x fed drained f d a b (suc id) v e role = absurd (some-ne-none v (sym e))
whole_sits shared x fed drained f d a b zero v e role = let k = other_role _ v Whole e role in absurd (cc)
whole_sits shared x fed drained f d a b (suc zero) v e role = let k = other_role _ v Whole e role in absurd (cc)
whole_sits shared x fed drained f d a b (suc (suc id)) v e role = absurd (some-ne-none v (sym e))
whole_sits joined x fed drained f d a b zero v e role = let k = other_role _ v Whole e role in absurd (cc)
whole_sits joined x fed drained f d a b (suc zero) v e role = let k = other_role _ v Whole e role in absurd (cc)
whole_sits joined x fed drained f d a b (suc (suc id)) v e role = absurd (some-ne-none v (sym e))

pub joined_sits : (stage : Stage) (x : State) (fed : List FeedTurn) (drained : List DrainTurn) (f d : Bool)
    (a b : Option Note) (id : ℕ) (v : View)
    → get_elem? (views_of stage x fed drained f d a b) id ≡ some v → v.role ≡ Joined
    → SitsAt stage joined id 0 v (view Joined x fed drained (f || d) None)
joined_sits whole x fed drained f d a b zero v e role = let k = other_role _ v Joined e role in absurd (cc)
joined_sits whole x fed drained f d a b (suc id) v e role = absurd (some-ne-none v (sym e))
joined_sits shared x fed drained f d a b zero v e role = let k = other_role _ v Joined e role in absurd (cc)
joined_sits shared x fed drained f d a b (suc zero) v e role = let k = other_role _ v Joined e role in absurd (cc)
joined_sits shared x fed drained f d a b (suc (suc id)) v e role = absurd (some-ne-none v (sym e))
joined_sits joined x fed drained f d a b zero v e role =
    record { stage_is = refl; place_is = refl; view_is = sym (some-injective _ v e) }
joined_sits joined x fed drained f d a b (suc zero) v e role = let k = other_role _ v Joined e role in absurd (cc)
joined_sits joined x fed drained f d a b (suc (suc id)) v e role = absurd (some-ne-none v (sym e))

-- an even word is that of a free turn
pub even_is_free : (holder : Holder) (n word : ℕ) → word_of holder n ≡ word → word % 2 ≡ 0 → holder ≡ nobody
even_is_free nobody n word e even = refl
even_is_free feeder n word e even = absurd (omega arith)
even_is_free drain n word e even = absurd (omega arith)

-- a note is that of the holder
pub feeder_holds : (holder : Holder) (m k : Note) → feeder_note holder m ≡ Some k → (holder ≡ feeder) × (m ≡ k)
feeder_holds nobody m k e = absurd (cc)
feeder_holds feeder m k e = (refl, cc)
feeder_holds drain m k e = absurd (cc)

pub drain_holds : (holder : Holder) (m k : Note) → drain_note holder m ≡ Some k → (holder ≡ drain) × (m ≡ k)
drain_holds nobody m k e = absurd (cc)
drain_holds feeder m k e = absurd (cc)
drain_holds drain m k e = (refl, cc)

pub none_hold : (holder : Holder) (m : Note) → feeder_note holder m ≡ None → drain_note holder m ≡ None
    → holder ≡ nobody
none_hold nobody m e f = refl
none_hold feeder m e f = absurd (cc)
none_hold drain m e f = absurd (cc)
