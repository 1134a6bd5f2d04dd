use Rattle.std.proofs.Common.{◌∙◌, ◌++◌, List, map, option_map, ap, subst, sym}
use Rattle.packet_record.specs.Moments.{AreUpTo}
use Rattle.packet_record.specs.Rows.{entering}
use Rattle.packet_record.proofs.RowsLemmas.{up_to-entering}
use Rattle.nest_spec.specs.declared.shell.ShellDirection.{ShellDirection}
use Rattle.nest_spec.specs.Fates.{fated}
use Rattle.nest_spec.specs.Links.{AreNestShells, specs_in}
use Rattle.nest_spec.specs.Nests.{shells_in}
use Rattle.nest_spec.specs.Passed.{HavePassed}
use Rattle.nest_spec.specs.RunViews.{entries_in, named_by}
use Rattle.nest_spec.specs.Walk.{named_log, walk}
use Rattle.nest_spec.specs.inside.Marks.{marked_through}
use Rattle.nest_spec.proofs.PassedLemmas.{some_states, first_arrivals}
use Rattle.nest_spec.proofs.gathering.gather_direction.Goals as goal

pub bounds-states-0 : goal.bounds-states-0
bounds-states-0 c =
    let nest = c.args.nest.now in
    some_states nest.horizon (shells_in c.args.direction nest) c.in_ok-shells.shells.items
    (entering c.args.direction nest.horizon c.args.rows.now) c.args.states.now
    c.in_ok-shells.ensures.list c.requires.passed c.in_ok-shells.ensures.some

pub gather_shells-requires : goal.gather_shells-requires
gather_shells-requires c =
    let a = c.args in
    let h = a.nest.now.horizon in
    let shells = shells_in a.direction a.nest.now in
    let packets = entering a.direction h a.rows.now in
    let some = some_states h shells c.in_ok-shells.shells.items packets a.states.now c.in_ok-shells.ensures.list
    c.requires.passed c.in_ok-shells.ensures.some in
    let arrived = first_arrivals h (specs_in shells) packets c.packets-arrived.result.now a.states.now
    c.index-states-0.result c.fed.result c.requires.passed some c.packets-arrived.ensures c.fed.ensures
    c.index-states-0.is in
    record {
      passed = subst (λ n. HavePassed n (specs_in c.as_slice.result.now) c.packets-arrived.result.now a.states.now)
          (sym c.horizon.ensures.value)
          (subst (λ (l : List ShellDirection). HavePassed h (specs_in l) c.packets-arrived.result.now a.states.now)
          (sym (c.as_slice.ensures.value ∙ c.in_ok-shells.ensures.list))
          (subst (λ l. HavePassed h (specs_in shells) l a.states.now) (sym arrived) c.requires.passed));
      within = subst (λ n. AreUpTo n c.packets-arrived.result.now) (sym c.horizon.ensures.value)
          (subst (AreUpTo h) (sym arrived) (up_to-entering a.direction h a.rows.now));
      short = c.horizon.ensures.most;
      shells = subst AreNestShells (sym c.as_slice.ensures.value) c.in_ok-shells.ensures.shells;
    }

pub returns-clause-fates : goal.returns-clause-fates
returns-clause-fates c =
    let a = c.args in
    let h = a.nest.now.horizon in
    let shells = shells_in a.direction a.nest.now in
    let packets = entering a.direction h a.rows.now in
    let some = some_states h shells c.in_ok-shells.shells.items packets a.states.now c.in_ok-shells.ensures.list
    c.requires.passed c.in_ok-shells.ensures.some in
    let arrived = first_arrivals h (specs_in shells) packets c.packets-arrived.result.now a.states.now
    c.index-states-0.result c.fed.result c.requires.passed some c.packets-arrived.ensures c.fed.ensures
    c.index-states-0.is in
    λ f e.
    c.in_ok-gather_shells.ensures.fates f e
    ∙ ap (λ n. fated (marked_through n c.as_slice.result.now c.packets-arrived.result.now f) a.marking.now.rows)
    c.horizon.ensures.value
    ∙ ap (λ l. fated (marked_through h l c.packets-arrived.result.now f) a.marking.now.rows) (c.as_slice.ensures.value
    ∙ c.in_ok-shells.ensures.list)
    ∙ ap (λ l. fated (marked_through h shells l f) a.marking.now.rows) arrived

pub returns-clause-logs : goal.returns-clause-logs
returns-clause-logs c =
    let a = c.args in
    let h = a.nest.now.horizon in
    let shells = shells_in a.direction a.nest.now in
    let packets = entering a.direction h a.rows.now in
    let some = some_states h shells c.in_ok-shells.shells.items packets a.states.now c.in_ok-shells.ensures.list
    c.requires.passed c.in_ok-shells.ensures.some in
    let arrived = first_arrivals h (specs_in shells) packets c.packets-arrived.result.now a.states.now
    c.index-states-0.result c.fed.result c.requires.passed some c.packets-arrived.ensures c.fed.ensures
    c.index-states-0.is in
    c.in_ok-gather_shells.ensures.logs
    ∙ ap (λ l. map (option_map (named_by entries_in)) l
    ++ map named_log (walk c.horizon.result c.as_slice.result.now c.packets-arrived.result.now))
    c.in_ok-logs.ensures.items
    ∙ ap (λ n. map named_log (walk n c.as_slice.result.now c.packets-arrived.result.now)) c.horizon.ensures.value
    ∙ ap (λ l. map named_log (walk h l c.packets-arrived.result.now)) (c.as_slice.ensures.value
    ∙ c.in_ok-shells.ensures.list)
    ∙ ap (λ l. map named_log (walk h shells l)) arrived
