use Rattle.std.proofs.Common.{◌≡◌, ◌∙◌, ◌≤◌, ◌+◌, sym, ap, subst, arith, length, List, ℕ, rules}
use Rattle.std.specs.Vec.{with_items}
use Rattle.std.proofs.lemmas.List.{take_at}
use Rattle.packet_record.specs.declared.item.FlowEnd.TheVariants.{Open}
use Rattle.sender_merge.specs.declared.step.MergeStep.{MergeStep}
use Rattle.sender_merge.specs.declared.step.MergeStep.TheVariants.{Item as Gives}
use Rattle.packet_record.specs.Streams.{Stream, MayFollow}
use Rattle.sender_merge.specs.Inflows.{Inflow, Merging, merging}
use Rattle.sender_merge.specs.Laws.{AllUpTo, IfNeeds, IsMergeFront, IsStepUpTo, IsNeeded}
use Rattle.sender_merge.specs.inside.Lefts.{left_of}
use Rattle.sender_merge.specs.Steps.{next_step, step_of, senders_after}
use Rattle.sender_merge.specs.inside.Standing.{Stands}
use Rattle.sender_merge.proofs.Stepping.{is_given, step_needs, step_within}
use Rattle.sender_merge.proofs.Adding.{front}
use Rattle.sender_merge.proofs.merge_core.MergeCore.next.Goals as goal

pub add-requires-clause-follows : goal.add-requires-clause-follows
add-requires-clause-follows c =
    let m : Merging = merging c.self.inside.senders.items c.self.inside.given.stream in
    let is : next_step m ≡ Gives c.in-Item.item =
    ap (λ (n : ℕ). step_of c.self.inside.senders.items n) (sym c.bound.ensures)
    ∙ ap (λ (l : List Inflow). step_of l c.bound.result) (sym c.as_slice-senders.ensures.value)
    ∙ sym c.next_step-step.ensures ∙ c.in-Item.is in
    let going : m.given.end ≡ Open = ap (λ (n : Merging). n.given.end) c.self.view_is ∙ c.requires in
    let room : left_of m.senders ≤ c.self.inside.given.spare =
    (let waiting = c.self.invariant.waiting in let room = c.self.invariant.room in omega arith) in
    let g = is_given m c.self.inside.given.spare c.in-Item.item c.self.invariant.stands going room is in
    g.follows

pub add-requires-clause-room : goal.add-requires-clause-room
add-requires-clause-room c =
    let m : Merging = merging c.self.inside.senders.items c.self.inside.given.stream in
    let is : next_step m ≡ Gives c.in-Item.item =
    ap (λ (n : ℕ). step_of c.self.inside.senders.items n) (sym c.bound.ensures)
    ∙ ap (λ (l : List Inflow). step_of l c.bound.result) (sym c.as_slice-senders.ensures.value)
    ∙ sym c.next_step-step.ensures ∙ c.in-Item.is in
    let going : m.given.end ≡ Open = ap (λ (n : Merging). n.given.end) c.self.view_is ∙ c.requires in
    let room : left_of m.senders ≤ c.self.inside.given.spare =
    (let waiting = c.self.invariant.waiting in let room = c.self.invariant.room in omega arith) in
    let g = is_given m c.self.inside.given.spare c.in-Item.item c.self.invariant.stands going room is in
    g.room

pub invariant_of-self : goal.invariant_of-self
invariant_of-self c =
    let m : Merging = merging c.self.inside.senders.items c.self.inside.given.stream in
    let is : next_step m ≡ Gives c.in-Item.item =
    ap (λ (n : ℕ). step_of c.self.inside.senders.items n) (sym c.bound.ensures)
    ∙ ap (λ (l : List Inflow). step_of l c.bound.result) (sym c.as_slice-senders.ensures.value)
    ∙ sym c.next_step-step.ensures ∙ c.in-Item.is in
    let going : m.given.end ≡ Open = ap (λ (n : Merging). n.given.end) c.self.view_is ∙ c.requires in
    let room : left_of m.senders ≤ c.self.inside.given.spare =
    (let waiting = c.self.invariant.waiting in let room = c.self.invariant.room in omega arith) in
    let g = is_given m c.self.inside.given.spare c.in-Item.item c.self.invariant.stands going room is in
    let after : c.pass.new.senders ≡ senders_after m.senders c.in-Item.item = c.pass.ensures.senders
    ∙ ap (λ (l : List Inflow). senders_after l c.in-Item.item) c.as_mut_slice.ensures.value in
    let long : length c.pass.new.senders ≡ length m.senders = ap (λ (l : List Inflow). length l) after ∙ g.long in
    let kept : (with_items c.self.inside.senders c.pass.new.senders).items ≡ c.pass.new.senders =
    take_at c.pass.new.senders _ c.self.inside.senders.len (long ∙ search rules) in
    let left : left_of c.pass.new.senders ≡ left_of (senders_after m.senders c.in-Item.item) = ap left_of after in
    let less : c.pass.result + left_of c.pass.new.senders ≡ left_of m.senders = c.pass.ensures.left
    ∙ ap left_of c.as_mut_slice.ensures.value in
    record {
      some = (let some = c.self.invariant.some in let l = ap (λ (l : List Inflow). length l) kept in omega arith);
      few = (let few = c.self.invariant.few in let l = ap (λ (l : List Inflow). length l) kept in omega arith);
      waiting = (let waiting = c.self.invariant.waiting in let l = ap left_of kept in omega arith);
      room = (let waiting = c.self.invariant.waiting in let most = g.left in let spare = c.add.ensures.spare in
          omega arith);
      stands = subst (λ (l : List Inflow). Stands (merging l c.add.new.self.stream)) (sym (kept ∙ after))
          (subst (λ (f : Stream). Stands (merging (senders_after m.senders c.in-Item.item) f))
          (sym c.add.ensures.stream) g.stands);
    }

pub returns-in-Item-clause-follows : goal.returns-in-Item-clause-follows
returns-in-Item-clause-follows c =
    let m : Merging = merging c.self.inside.senders.items c.self.inside.given.stream in
    let is : next_step m ≡ Gives c.in-Item.item =
    ap (λ (n : ℕ). step_of c.self.inside.senders.items n) (sym c.bound.ensures)
    ∙ ap (λ (l : List Inflow). step_of l c.bound.result) (sym c.as_slice-senders.ensures.value)
    ∙ sym c.next_step-step.ensures ∙ c.in-Item.is in
    let going : m.given.end ≡ Open = ap (λ (n : Merging). n.given.end) c.self.view_is ∙ c.requires in
    let room : left_of m.senders ≤ c.self.inside.given.spare =
    (let waiting = c.self.invariant.waiting in let room = c.self.invariant.room in omega arith) in
    let g = is_given m c.self.inside.given.spare c.in-Item.item c.self.invariant.stands going room is in
    subst (λ (n : Merging). MayFollow n.given c.in-Item.item) c.self.view_is g.follows

pub returns-in-Item-clause-within : goal.returns-in-Item-clause-within
returns-in-Item-clause-within c = λ horizon up.
    let m : Merging = merging c.self.inside.senders.items c.self.inside.given.stream in
    let is : next_step m ≡ Gives c.in-Item.item =
    ap (λ (n : ℕ). step_of c.self.inside.senders.items n) (sym c.bound.ensures)
    ∙ ap (λ (l : List Inflow). step_of l c.bound.result) (sym c.as_slice-senders.ensures.value)
    ∙ sym c.next_step-step.ensures ∙ c.in-Item.is in
    let going : m.given.end ≡ Open = ap (λ (n : Merging). n.given.end) c.self.view_is ∙ c.requires in
    let room : left_of m.senders ≤ c.self.inside.given.spare =
    (let waiting = c.self.invariant.waiting in let room = c.self.invariant.room in omega arith) in
    let g = is_given m c.self.inside.given.spare c.in-Item.item c.self.invariant.stands going room is in
    subst (IsStepUpTo horizon) is
    (step_within m horizon (subst (λ (n : Merging). AllUpTo horizon n.senders) (sym c.self.view_is) up))

pub returns-in-Item-clause-front : goal.returns-in-Item-clause-front
returns-in-Item-clause-front c =
    let m : Merging = merging c.self.inside.senders.items c.self.inside.given.stream in
    let is : next_step m ≡ Gives c.in-Item.item =
    ap (λ (n : ℕ). step_of c.self.inside.senders.items n) (sym c.bound.ensures)
    ∙ ap (λ (l : List Inflow). step_of l c.bound.result) (sym c.as_slice-senders.ensures.value)
    ∙ sym c.next_step-step.ensures ∙ c.in-Item.is in
    let going : m.given.end ≡ Open = ap (λ (n : Merging). n.given.end) c.self.view_is ∙ c.requires in
    let room : left_of m.senders ≤ c.self.inside.given.spare =
    (let waiting = c.self.invariant.waiting in let room = c.self.invariant.room in omega arith) in
    let g = is_given m c.self.inside.given.spare c.in-Item.item c.self.invariant.stands going room is in
    let after : c.pass.new.senders ≡ senders_after m.senders c.in-Item.item = c.pass.ensures.senders
    ∙ ap (λ (l : List Inflow). senders_after l c.in-Item.item) c.as_mut_slice.ensures.value in
    let long : length c.pass.new.senders ≡ length m.senders = ap (λ (l : List Inflow). length l) after ∙ g.long in
    let kept : (with_items c.self.inside.senders c.pass.new.senders).items ≡ c.pass.new.senders =
    take_at c.pass.new.senders _ c.self.inside.senders.len (long ∙ search rules) in
    front _ (subst (λ (l : List Inflow). Stands (merging l c.add.new.self.stream)) (sym (kept ∙ after))
    (subst (λ (f : Stream). Stands (merging (senders_after m.senders c.in-Item.item) f)) (sym c.add.ensures.stream)
    g.stands))

pub returns-in_default-clause-front : goal.returns-in_default-clause-front
returns-in_default-clause-front c = subst IsMergeFront c.self.view_is (front _ c.self.invariant.stands)

pub returns-in_default-clause-needs : goal.returns-in_default-clause-needs
returns-in_default-clause-needs c =
    let m : Merging = merging c.self.inside.senders.items c.self.inside.given.stream in
    let is : next_step m ≡ c.next_step-step.result =
    ap (λ (n : ℕ). step_of c.self.inside.senders.items n) (sym c.bound.ensures)
    ∙ ap (λ (l : List Inflow). step_of l c.bound.result) (sym c.as_slice-senders.ensures.value)
    ∙ sym c.next_step-step.ensures in
    subst (λ (n : Merging). IfNeeds c.next_step-step.result (IsNeeded n.senders)) c.self.view_is
    (subst (λ (step : MergeStep). IfNeeds step (IsNeeded m.senders)) is (step_needs m))
