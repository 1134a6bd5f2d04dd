use Rattle.std.proofs.Common.{◌∙◌, Bool, List, Option, None, IsSome, ap, refl, subst, sym, if◌then◌else◌}
use Rattle.shell_log.specs.declared.entry.Entry.{Entry}
use Rattle.shell_state.specs.Shells.{whole_log}
use Rattle.shell_state.specs.Wholes.{if_link}
use Rattle.nest_plain.proofs.Naming.{logged_where_named}
use Rattle.nest_plain.proofs.Passing.{lost_short}
use Rattle.nest_plain.proofs.shell.run_shell.Goals as goal

pub returns-clause-log : goal.returns-clause-log
returns-clause-log c =
    let shell = c.args.shell in
    let entries = whole_log shell.spec c.args.horizon c.args.arrived.items in
    c.log_named.ensures entries
    (logged_where_named shell.log shell.spec entries c.in_ok-departed.field-0.log c.requires.shell.link
    (c.in_ok-departed.ensures.log
    ∙ ap (λ (b : Bool). if b then if_link shell.spec entries else None) c.is_some-logged.ensures))

pub pass-requires : goal.pass-requires
pass-requires c = record {
  few = c.requires.shell.few;
  short = lost_short c.args.shell.spec c.args.horizon c.args.arrived.items c.as_slice.result.now
      (c.as_slice.ensures.value ∙ c.in_ok-departed.ensures.lost) c.requires.within c.requires.horizon;
}

pub log_named-requires : goal.log_named-requires
log_named-requires c = λ named.
    let shell = c.args.shell in
    let entries = whole_log shell.spec c.args.horizon c.args.arrived.items in
    subst (λ (o : Option (List Entry)). IsSome o)
    (sym (logged_where_named shell.log shell.spec entries c.in_ok-departed.field-0.log c.requires.shell.link
    (c.in_ok-departed.ensures.log
    ∙ ap (λ (b : Bool). if b then if_link shell.spec entries else None) c.is_some-logged.ensures) named)) refl
