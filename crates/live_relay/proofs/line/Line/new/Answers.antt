use Rattle.std.proofs.Common.{◌≡◌, ap, sym, subst, List, length, arith, ◌≤◌}
use Rattle.std.proofs.lemmas.List.{with_items_is}
use Rattle.shell_state.specs.States.{State}
use Rattle.live_relay.specs.inside.Meeting.{AreNew, Follow, Meet}
use Rattle.live_relay.specs.views.Meeting.{fed_of}
use Rattle.live_relay.proofs.Carrying.{fed_of_new, meet_own, new_follow}
use Rattle.live_relay.proofs.Lining.{some_states}
use Rattle.live_relay.proofs.line.Line.new.Goals as goal

pub advance-requires-clause-follow : goal.advance-requires-clause-follow
advance-requires-clause-follow c =
    let h = c.horizon-horizon.result in
    let states = c.in_ok-states.states.items in
    let new = subst (λ n. AreNew n states) (sym c.horizon-horizon.ensures.value) c.in_ok-states.ensures.new in
    subst (λ (l : List State). Follow h (fed_of l) l) (sym c.as_mut_slice.ensures.value)
    (new_follow h (fed_of states) states (fed_of_new h states new) new)

pub advance-requires-clause-some : goal.advance-requires-clause-some
advance-requires-clause-some c = subst (λ (l : List State). 1 ≤ length l) (sym c.as_mut_slice.ensures.value)
    (some_states c.args.direction c.args.nest.now c.in_ok-states.states.items c.in_ok-states.ensures.specs
    c.shells.ensures.nest.some)

pub invariant_of-result : goal.invariant_of-result
invariant_of-result c =
    let had = some_states c.args.direction c.args.nest.now c.in_ok-states.states.items c.in_ok-states.ensures.specs
    c.shells.ensures.nest.some in
    let lent = ap length c.as_mut_slice.ensures.value in
    let some : 1 ≤ length c.advance.new.states = let same = c.advance.ensures.some in omega arith in
    let ok = c.in_ok-states.states.ok in
    let long : length c.advance.new.states ≡ c.in_ok-states.states.len = let same = c.advance.ensures.some
    in omega arith
    in
    let items = with_items_is c.in_ok-states.states c.advance.new.states long in
    let h = c.horizon-horizon.result in
    record {
      some = subst (λ (l : List State). 1 ≤ length l) (sym items) some;
      meet = subst (λ (l : List State). Meet h (fed_of l) l) (sym items)
          (meet_own h _ c.advance.new.states some c.in_ok-advance.ensures.meet);
    }
