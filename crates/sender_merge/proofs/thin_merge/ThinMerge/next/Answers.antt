use Rattle.std.proofs.Common.{◌≡◌, ◌∙◌, List, ap, length, rules, sym}
use Rattle.std.specs.Vec.{with_items}
use Rattle.std.proofs.lemmas.List.{take_at}
use Rattle.sender_merge.specs.Inflows.{Inflow}
use Rattle.sender_merge.specs.Steps.{step_of}
use Rattle.sender_merge.specs.inside.Thins.{senders_left}
use Rattle.sender_merge.proofs.Thinning.{after-thin, left-long, next-reach, next-thin}
use Rattle.sender_merge.proofs.thin_merge.ThinMerge.next.Goals as goal

pub add-requires : goal.add-requires
add-requires c =
    let m = c.requires.going in
    let old = c.args.self.now in
    next-reach m.0 old c.in-Item.item m.1 m.2 m.3
    (sym (next-thin m.0 old m.2)
    ∙ ap (λ (l : List Inflow). step_of l old.given.bound) (sym c.as_slice-senders.ensures.value)
    ∙ sym c.next_step-step.ensures ∙ c.in-Item.is)

pub returns-in-Item-clause-step : goal.returns-in-Item-clause-step
returns-in-Item-clause-step c = λ m is.
    sym c.in-Item.is ∙ c.next_step-step.ensures
    ∙ ap (λ (l : List Inflow). step_of l c.args.self.now.given.bound) c.as_slice-senders.ensures.value
    ∙ next-thin m c.args.self.now is

pub returns-in-Item-clause-after : goal.returns-in-Item-clause-after
returns-in-Item-clause-after c = λ m is.
    let old = c.args.self.now in
    let x = c.in-Item.item in
    let left : c.forget.new.senders ≡ senders_left old.senders.items x = c.forget.ensures
    ∙ ap (λ (l : List Inflow). senders_left l x) c.as_mut_slice.ensures.value in
    let long : length c.forget.new.senders ≡ length old.senders.items = ap (length {A = Inflow}) left
    ∙ left-long old.senders.items x in
    let kept : (with_items old.senders c.forget.new.senders).items ≡ c.forget.new.senders =
    take_at c.forget.new.senders _ old.senders.len (long ∙ search rules) in
    after-thin m old _ x is (kept ∙ left) c.add.ensures

pub returns-in_default-clause-step : goal.returns-in_default-clause-step
returns-in_default-clause-step c = λ m is.
    c.next_step-step.ensures
    ∙ ap (λ (l : List Inflow). step_of l c.args.self.now.given.bound) c.as_slice-senders.ensures.value
    ∙ next-thin m c.args.self.now is
