use Rattle.std.proofs.Common.{◌∙◌, IsSome, ap, option_map, refl, subst, sym}
use Rattle.packet_record.proofs.MomentsLemmas.{up_to_higher}
use Rattle.shell_state.specs.declared.spec.DirSpec.{DirSpec}
use Rattle.shell_state.specs.Shells.{whole_log, whole_lost}
use Rattle.shell_state.specs.Wholes.{IsLink}
use Rattle.nest_spec.specs.Fates.{fated}
use Rattle.nest_spec.specs.Marks.{passed}
use Rattle.nest_spec.specs.Walk.{named_entries}
use Rattle.nest_plain.proofs.Naming.{is_logged}
use Rattle.nest_plain.proofs.Passing.{departed_within, lost_short}
use Rattle.nest_runner.proofs.gathering.gather_shell.Goals as goal

pub returns-clause-fates : goal.returns-clause-fates
returns-clause-fates c = λ f e.
    let n = c.args.shell.number in
    let s = c.args.state in
    let rows = c.args.marking.now.rows in
    let gave = c.in_ok-departed.ensures in
    let lost = c.as_slice.ensures.value ∙ gave.lost in
    let held = c.as_slice-2.ensures.value ∙ gave.held in
    c.pass.ensures.fates f e
    ∙ ap (λ l. fated (passed n l c.as_slice-2.result.now f) rows) lost
    ∙ ap (λ l. fated (passed n (whole_lost s.spec s.horizon s.fed.packets) l f) rows) held

pub pass-requires : goal.pass-requires
pass-requires c =
    let s = c.args.state in
    record {
      few = c.requires.shell.few;
      short = lost_short s.spec s.horizon s.fed.packets c.as_slice.result.now
          (c.as_slice.ensures.value ∙ c.in_ok-departed.ensures.lost) c.stands.ensures.stands.honest_fed.within
          c.requires.state.2;
    }

pub returns-clause-short : goal.returns-clause-short
returns-clause-short c =
    let s = c.args.state in
    let departed = c.in_ok-departed.field-0.departed.items in
    up_to_higher s.horizon 3600000 departed c.requires.state.2
    (departed_within s.spec s.horizon s.fed.packets departed c.stands.ensures.stands.built
    c.in_ok-departed.ensures.departed c.stands.ensures.stands.honest_fed.within)

pub returns-clause-log : goal.returns-clause-log
returns-clause-log c =
    let shell = c.args.shell in
    let s = c.args.state in
    let same = c.requires.state.0 in
    let entries = whole_log s.spec s.horizon s.fed.packets in
    c.log_named.ensures entries
    (λ named. c.in_ok-departed.ensures.log
    ∙ is_logged s.spec entries (subst IsLink (sym same) (c.requires.shell.link named)))
    ∙ ap
    (λ (spec : DirSpec). option_map (λ name. named_entries name (whole_log spec s.horizon s.fed.packets)) shell.log) same

pub log_named-requires : goal.log_named-requires
log_named-requires c = λ named.
    let s = c.args.state in
    let entries = whole_log s.spec s.horizon s.fed.packets in
    subst (λ o. IsSome o)
    (sym (c.in_ok-departed.ensures.log
    ∙ is_logged s.spec entries (subst IsLink (sym c.requires.state.0) (c.requires.shell.link named)))) refl
