use Rattle.std.proofs.Common.{ap, length, refl, rules, subst, sym, ◌∙◌, arith}
use Rattle.std.proofs.lemmas.Grind.{common_steps}
use Rattle.std.proofs.lemmas.Result.{on_ok_weaker}
use Rattle.packet_record.specs.Moments.{AreUpTo}
use Rattle.packet_record.proofs.MomentsLemmas.{up_to_higher}
use Rattle.shell_state.specs.Shells.{opportunities}
use Rattle.shell_state.proofs.Laws.{lost_within}
use Rattle.nest_spec.specs.Fates.{fated}
use Rattle.nest_spec.specs.Links.{AreNestShells, specs_in}
use Rattle.nest_spec.specs.Marks.{passed}
use Rattle.nest_spec.specs.inside.Marks.{ids_of, marked_through}
use Rattle.nest_spec.specs.Passed.{HavePassed}
use Rattle.nest_spec.proofs.Natural.{one_step}
use Rattle.nest_spec.proofs.PassedLemmas.{first_has_run, first_horizon, rest_have_passed}
use Rattle.nest_spec.proofs.gathering.+gather_shells.Goals as goal

pub returns-clause-fates : goal.returns-clause-fates
returns-clause-fates t c =
    let a = c.args in
    let h = a.horizon in
    let shell = c.in-Some.shell.now in
    let rest = c.in-Some.shells.now in
    let rows = a.marking.now.rows in
    let shells_are = c.in-Some.ensures.cases.0 in
    let first = rw c.unwrap.ensures at c.split_first-2.ensures.cases in
    let state = c.unwrap.result.0.now in
    let run = first_has_run h (specs_in a.shells.now) (specs_in rest) shell.spec a.arrived.now a.states.now
    c.unwrap.result.1.now state (ap specs_in shells_are) first.0 c.requires.passed c.stands.ensures.stands in
    let departed = c.packets.ensures ∙ ap (λ s. s.packets) c.taken.ensures ∙ run.departed in
    let lost = c.lost.ensures ∙ run.dropped in
    let held = c.as_slice.ensures.value ∙ c.in_ok-held.ensures ∙ ap ids_of run.held in
    on_ok_weaker c.gather_shells.result
    (λ later f e.
    later (passed shell.number c.lost.result.now c.as_slice.result.now f) (c.pass.ensures.fates f e
    ∙ ap (fated (passed shell.number c.lost.result.now c.as_slice.result.now f)) (sym c.pass.ensures.rows))
    ∙ ap (fated (marked_through h rest c.packets.result.now
    (passed shell.number c.lost.result.now c.as_slice.result.now f))) c.pass.ensures.rows
    ∙ ap (λ g. fated g rows) (one_step h shell.number a.shells.now rest shell a.arrived.now c.packets.result.now
    c.lost.result.now c.as_slice.result.now f shells_are refl departed lost held))
    c.gather_shells.ensures.fates

pub pass-requires : goal.pass-requires
pass-requires t c =
    let a = c.args in
    let rest = c.in-Some.shells.now in
    let shell = c.in-Some.shell.now in
    let first = rw c.unwrap.ensures at c.split_first-2.ensures.cases in
    let state = c.unwrap.result.0.now in
    let run = first_has_run a.horizon (specs_in a.shells.now) (specs_in rest) shell.spec a.arrived.now a.states.now
    c.unwrap.result.1.now state (ap specs_in c.in-Some.ensures.cases.0) first.0 c.requires.passed
    c.stands.ensures.stands in
    record {
      few = (subst AreNestShells c.in-Some.ensures.cases.0 c.requires.shells).0.few;
      short = up_to_higher a.horizon 3600000 c.lost.result.now c.requires.short
          (subst (AreUpTo a.horizon) (sym (c.lost.ensures ∙ run.dropped))
          (lost_within shell.spec a.horizon (length (opportunities shell.spec a.horizon)) a.arrived.now
          c.requires.within));
    }

pub depart-requires : goal.depart-requires
depart-requires t c = record {
  short = up_to_higher c.args.horizon 3600000 c.args.arrived.now c.requires.short c.requires.within;
}

pub gather_shells-requires : goal.gather_shells-requires
gather_shells-requires t c =
    let a = c.args in
    let rest = c.in-Some.shells.now in
    let shell = c.in-Some.shell.now in
    let shells_are = c.in-Some.ensures.cases.0 in
    let first = rw c.unwrap.ensures at c.split_first-2.ensures.cases in
    let state = c.unwrap.result.0.now in
    let others = c.unwrap.result.1.now in
    let packets = c.packets.ensures ∙ ap (λ s. s.packets) c.taken.ensures in
    let horizon = first_horizon a.horizon (specs_in a.shells.now) (specs_in rest) shell.spec a.arrived.now a.states.now
    others state (ap specs_in shells_are) first.0 c.requires.passed in
    let later = rest_have_passed a.horizon (specs_in a.shells.now) (specs_in rest) shell.spec a.arrived.now
    a.states.now others state (ap specs_in shells_are) first.0 c.requires.passed in
    let others_are = subst AreNestShells shells_are c.requires.shells in (
      search rules,
      (
        subst (λ l. HavePassed a.horizon (specs_in rest) l others) (sym packets) later,
        (
          subst (λ n. AreUpTo n c.packets.result.now) horizon
              (subst (AreUpTo state.horizon) (sym packets) c.stands.ensures.stands.honest_taken.within),
          (
            c.requires.short,
            others_are.1,
          ),
        ),
      ),
    )

pub returns-clause-logs : goal.returns-clause-logs
returns-clause-logs t c = grind (arith, common_steps)
