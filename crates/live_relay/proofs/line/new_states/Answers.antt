use Rattle.std.proofs.Common.{◌≡◌, ◌∙◌, ◌++◌, ◌∷◌, [], List, subst, sym, ap, rules, append_assoc}
use Rattle.std.specs.Vec.Iter.{into_iter_items}
use Rattle.shell_state.specs.declared.spec.DirSpec.{DirSpec}
use Rattle.shell_state.specs.States.{State, new_state}
use Rattle.nest_spec.specs.Nests.{AllFit}
use Rattle.live_relay.specs.inside.Meeting.{AreNew}
use Rattle.live_relay.specs.views.Meeting.{specs_of}
use Rattle.live_relay.proofs.Carrying.{new-snoc, specs-snoc}
use Rattle.live_relay.proofs.line.new_states.Goals as goal

pub loop-spec-preserved : goal.loop-spec-preserved
loop-spec-preserved c =
    let i = c.loop-spec.invariant in
    let h = c.horizon-horizon.result in
    let is = sym c.in_ok-push.ensures.items in
    let s = c.in_ok-state.state in
    let items : into_iter_items c.loop-spec.spec-iterator ≡ c.in-Some.spec ∷ into_iter_items c.next.new.self = search
    rules in
    let fit : AllFit h (c.in-Some.spec ∷ into_iter_items c.next.new.self) = subst (AllFit h) items i.fit in
    let spec : s.spec ≡ c.in-Some.spec = ap (λ (x : State). x.spec) c.in_ok-state.ensures in
    let rest = into_iter_items c.next.new.self in
    record {
      fit = fit.2;
      new = subst (AreNew h) is (new-snoc h _ _ i.new (subst (λ (x : DirSpec). s ≡ new_state x h) (sym spec)
          c.in_ok-state.ensures) c.stands.ensures.stands);
      specs = ap (λ (l : List State). specs_of l ++ rest) (sym is)
          ∙ ap (λ (l : List DirSpec). l ++ rest) (specs-snoc c.loop-spec.states.items s)
          ∙ append_assoc (specs_of c.loop-spec.states.items) (s.spec ∷ []) rest
          ∙ ap (λ (x : DirSpec). specs_of c.loop-spec.states.items ++ (x ∷ rest)) spec
          ∙ ap (λ (l : List DirSpec). specs_of c.loop-spec.states.items ++ l) (sym items)
          ∙ i.specs;
    }
