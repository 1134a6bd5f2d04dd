use Rattle.std.proofs.Common.{subst, sym, ap, ◌∙◌, ◌≡◌, rules}
use Rattle.packet_record.specs.declared.item.FlowEnd.TheVariants.{Open}
use Rattle.shell_state.specs.States.{State}
use Rattle.shell_state.specs.views.Whole.{state_of}
use Rattle.shell_state.specs.inside.Fed.{IsWhole}
use Rattle.shell_state.specs.Standing.{Stands}
use Rattle.shell_state.specs.Steps.{after_take, answer_of}
use Rattle.shell_state.proofs.Causing.{caused}
use Rattle.shell_state.proofs.Answering.{Steps, whole_taken, take_follows, take_is, not_broken}
use Rattle.shell_state.proofs.state.ShellState.take.Goals as goal

pub put-requires-clause-follows : goal.put-requires-clause-follows
put-requires-clause-follows c =
    let s = c.self.inside in
    let whole = not_broken s.core s.fed s.taken s.broken c.if-self.false c.self.invariant.whole in
    let open' : s.taken.reach.end ≡ Open = ap (λ (v : State). v.taken.end) c.self.view_is ∙ c.requires.open in
    take_follows s.core s.fed s.taken c.burn.new.core c.in_ok-burnt.burnt c.args.most c.answer-answer.result whole
    open' c.in_ok-burnt.ensures.count c.in_ok-burnt.ensures.core c.answer-answer.ensures.is

steps : (c : goal.After-put) → Steps c.self.inside.core c.self.inside.fed c.self.inside.taken c.burn.new.core
    c.put.new.taken c.in_ok-burnt.burnt c.args.most c.answer-answer.result
steps c = record {
  open' = ap (λ (v : State). v.taken.end) c.self.view_is ∙ c.requires.open;
  burnt = c.in_ok-burnt.ensures.count;
  core_is = c.in_ok-burnt.ensures.core;
  answer_is = c.answer-answer.ensures.is;
  taken_is = c.put.ensures;
}

pub invariant_of-self-2 : goal.invariant_of-self-2
invariant_of-self-2 c =
    let s = c.self.inside in
    let whole = not_broken s.core s.fed s.taken s.broken c.if-self.false c.self.invariant.whole in
    let done = whole_taken s.core s.fed s.taken c.burn.new.core c.put.new.taken c.in_ok-burnt.burnt c.args.most
    c.answer-answer.result whole (steps c) in
    record { whole = subst (IsWhole c.burn.new.core s.fed c.put.new.taken) (sym c.if-self.false) done }

pub returns-clause-ok : goal.returns-clause-ok
returns-clause-ok c =
    let s = c.self.inside in
    let new = state_of c.burn.new.core s.fed c.put.new.taken s.broken in
    let Is : State → Type 0 = λ v. (c.answer-answer.result ≡ answer_of v c.args.most)
    × (new ≡ after_take v c.args.most) in
    subst Is c.self.view_is (take_is s.core s.fed s.taken s.broken c.burn.new.core c.put.new.taken c.in_ok-burnt.burnt
    c.args.most c.answer-answer.result c.if-self.false c.self.invariant.whole (steps c))

pub returns-clause-causes : goal.returns-clause-causes
returns-clause-causes c =
    let done = returns-clause-ok c in
    caused c.args.self.now _ c.args.most c.answer-answer.result
    (subst Stands c.self.view_is c.self.invariant.whole.stands) c.requires.most done.0 done.1

pub returns-then-self-clause-causes : goal.returns-then-self-clause-causes
returns-then-self-clause-causes c = search rules
