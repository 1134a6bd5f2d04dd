use Rattle.std.proofs.Common.{◌≡◌, ◌∙◌, ◌≤◌, ◌∷◌, [], List, ap, length, refl, rules, subst, sym}
use Rattle.std.proofs.lemmas.List.{nil_from_length}
use Rattle.std.proofs.lemmas.Result.{on_ok_weaker}
use Rattle.std.specs.Vec.Iter.{into_iter_items, into_iter_len}
use Rattle.packet_record.specs.Moments.{AreUpTo}
use Rattle.shell_state.specs.Shells.{whole_inside, whole_lost}
use Rattle.shell_state.specs.States.{State}
use Rattle.nest_spec.specs.declared.shell.ShellDirection.{ShellDirection}
use Rattle.nest_spec.specs.Fates.{fated}
use Rattle.nest_spec.specs.Links.{AreNestShells, specs_in}
use Rattle.nest_spec.specs.Marks.{passed}
use Rattle.nest_spec.specs.inside.Marks.{ids_of, marked_through}
use Rattle.nest_spec.specs.Passed.{HavePassed}
use Rattle.nest_runner.proofs.Gathered.{marked_on}
use Rattle.nest_runner.proofs.gathering.+gather_shells.Goals as goal

pub returns-in_default-clause-fates : goal.returns-in_default-clause-fates
returns-in_default-clause-fates t c = λ f e.
    let shell = c.args.shell in
    let s = c.args.state in
    let fed = s.fed.packets in
    let rows = c.args.marking.now.rows in
    let gave = c.in_ok-departed.ensures in
    let out = c.as_slice.result.now in
    let g = passed shell.number (whole_lost s.spec s.horizon fed) (ids_of (whole_inside s.spec s.horizon fed)) f in
    let long : length (into_iter_items c.args.shells) ≡ into_iter_len c.args.shells = search rules in
    let zero : into_iter_len c.args.shells ≡ 0 = search rules in
    let none = nil_from_length (into_iter_items c.args.shells) (long ∙ zero) in
    let now = gave.fates f e ∙ ap (fated g) (sym gave.rows) in
    c.depart.ensures.fates g now
    ∙ ap (fated (marked_through s.horizon [] out g)) gave.rows
    ∙ ap (λ m. fated m rows) (marked_on s.horizon s.horizon shell (into_iter_items c.args.shells) [] s.spec fed out f
    refl none c.requires.passed.0 (c.as_slice.ensures.value ∙ gave.departed ∙ gave.whole))

pub returns-clause-fates : goal.returns-clause-fates
returns-clause-fates t c =
    let shell = c.args.shell in
    let s = c.args.state in
    let fed = s.fed.packets in
    let rows = c.args.marking.now.rows in
    let gave = c.in_ok-departed.ensures in
    let next = c.unwrap-state.result in
    let rest = c.in-Some.shell ∷ into_iter_items c.next.new.self in
    let items : into_iter_items c.args.shells ≡ rest = c.in-Some.ensures.items in
    let states : into_iter_items c.args.states ≡ next ∷ into_iter_items c.next-2.new.self = search rules in
    let after = subst (λ (l : List State). HavePassed s.horizon (specs_in rest) s.taken.packets l) states
    (subst (λ (l : List ShellDirection). HavePassed s.horizon (specs_in l) s.taken.packets
    (into_iter_items c.args.states)) items c.requires.passed.4) in
    on_ok_weaker c.gather_shells.result
    (λ later f e.
    let g = passed shell.number (whole_lost s.spec s.horizon fed) (ids_of (whole_inside s.spec s.horizon fed)) f in
    later g (gave.fates f e ∙ ap (fated g) (sym gave.rows))
    ∙ ap (fated (marked_through next.horizon rest next.fed.packets g)) gave.rows
    ∙ ap (λ m. fated m rows) (marked_on s.horizon next.horizon shell (into_iter_items c.args.shells) rest s.spec fed
    next.fed.packets f after.1 items c.requires.passed.0 (after.2 ∙ gave.whole)))
    c.gather_shells.ensures.fates

pub depart-requires : goal.depart-requires
depart-requires t c = record {
  short = subst (AreUpTo 3600000) (sym c.as_slice.ensures.value) c.in_ok-departed.ensures.short;
}

pub gather_shells-requires : goal.gather_shells-requires
gather_shells-requires t c =
    let s = c.args.state in
    let next = c.unwrap-state.result in
    let rest = c.in-Some.shell ∷ into_iter_items c.next.new.self in
    let later = next ∷ into_iter_items c.next-2.new.self in
    let items : into_iter_items c.args.shells ≡ rest = c.in-Some.ensures.items in
    let states : into_iter_items c.args.states ≡ later = search rules in
    let after : HavePassed s.horizon (specs_in rest) s.taken.packets later =
    subst (λ (l : List State). HavePassed s.horizon (specs_in rest) s.taken.packets l) states
    (subst (λ (l : List ShellDirection). HavePassed s.horizon (specs_in l) s.taken.packets
    (into_iter_items c.args.states)) items c.requires.passed.4) in
    let others = subst AreNestShells items c.requires.shells.1 in (
      search rules,
      (
        subst (λ n. HavePassed n (specs_in rest) next.fed.packets later) (sym after.1)
            (subst (λ p. HavePassed s.horizon (specs_in rest) p later) (sym after.2) after),
        (
          subst (λ n. n ≤ 3600000) (sym after.1) c.requires.short,
          others,
        ),
      ),
    )
