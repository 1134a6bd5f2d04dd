use Rattle.std.proofs.Common.{◌≡◌, ◌∙◌, ◌≤◌, ◌∷◌, List, ap, rules, subst, sym}
use Rattle.std.specs.Vec.Iter.{into_iter_items}
use Rattle.shell_state.specs.States.{State}
use Rattle.nest_spec.specs.declared.shell.ShellDirection.{ShellDirection}
use Rattle.nest_spec.specs.Fates.{fated}
use Rattle.nest_spec.specs.Links.{specs_in}
use Rattle.nest_spec.specs.inside.Marks.{marked_through}
use Rattle.nest_spec.specs.Nests.{shells_in}
use Rattle.nest_spec.specs.Passed.{HavePassed}
use Rattle.nest_runner.proofs.gathering.gather_direction.Goals as goal

pub returns-clause-fates : goal.returns-clause-fates
returns-clause-fates c = λ packets passed f e.
    let h = c.args.nest.now.horizon in
    let shells = shells_in c.args.direction c.args.nest.now in
    let s = c.unwrap-state.result in
    let list = c.unwrap-shell.result ∷ into_iter_items c.next.new.self in
    let states = s ∷ into_iter_items c.next-2.new.self in
    let list_is : list ≡ shells = search rules in
    let states_are : states ≡ c.args.states.items = search rules in
    let first : HavePassed h (specs_in list) packets states =
    subst (λ (l : List State). HavePassed h (specs_in list) packets l) (sym states_are)
    (subst (λ (l : List ShellDirection). HavePassed h (specs_in l) packets c.args.states.items) (sym list_is) passed) in
    c.in_ok-gather_shells.ensures.fates f e
    ∙ ap (λ n. fated (marked_through n list s.fed.packets f) c.args.marking.now.rows) first.1
    ∙ ap (λ l. fated (marked_through h l s.fed.packets f) c.args.marking.now.rows) list_is
    ∙ ap (λ l. fated (marked_through h shells l f) c.args.marking.now.rows) first.2

pub gather_shells-requires-clause-short : goal.gather_shells-requires-clause-short
gather_shells-requires-clause-short c =
    let h = c.args.nest.now.horizon in
    let shells = shells_in c.args.direction c.args.nest.now in
    let packets = c.requires.passed.0 in
    let s = c.unwrap-state.result in
    let list = c.unwrap-shell.result ∷ into_iter_items c.next.new.self in
    let states = s ∷ into_iter_items c.next-2.new.self in
    let list_is : list ≡ shells = search rules in
    let states_are : states ≡ c.args.states.items = search rules in
    let first : HavePassed h (specs_in list) packets states =
    subst (λ (l : List State). HavePassed h (specs_in list) packets l) (sym states_are)
    (subst (λ (l : List ShellDirection). HavePassed h (specs_in l) packets c.args.states.items) (sym list_is)
    c.requires.passed.1) in
    subst (λ n. n ≤ 3600000) (sym first.1) c.shells_in.ensures.horizon
