use Rattle.std.proofs.Common.{◌≡◌, ◌∙◌, ap, ap₂, sym, map, take}
use Rattle.std.proofs.lemmas.List.{take_more, map-append}
use Rattle.clap.specs.Words.{app_of, rule_of, with_rule}
use Rattle.option_words.specs.inside.ClapTable.{app_for}
use Rattle.option_words.specs.Values.{opt}
use Rattle.option_words.proofs.TableLemmas.{one_more_rule}
use Rattle.option_words.proofs.table.command_for.Goals as goal

pub loop-option-preserved : goal.loop-option-preserved
loop-option-preserved c =
    let front = take c.loop-option.option-index c.args.table.now in
    let added : app_of c.in_ok-command.command ≡ with_rule (app_of c.loop-option.command) (rule_of c.arg_for.result) =
    c.in_ok-command.ensures.shape c.arg_for.ensures.local in
    added ∙ ap₂ with_rule c.loop-option.invariant c.arg_for.ensures.rule ∙ one_more_rule (map opt front) _
    ∙ ap app_for (sym (ap (map opt) (take_more c.args.table.now c.loop-option.option-index _ c.loop-option-test.true)
    ∙ map-append opt front _))
