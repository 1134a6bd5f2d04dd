use Rattle.std.proofs.Common.{◌<◌, List, length, get_or, sym, subst, arith}
use Rattle.std.proofs.lemmas.Grind.{common_steps}
use Rattle.shell_log.specs.declared.entry.Entry.{Entry}
use Rattle.shell_log.specs.declared.entry.Entry.TheVariants.{Arrival}
use Rattle.shell_log.specs.Entries.{IsEntry}
use Rattle.log_report.proofs.SumLaws.{entry_in_log}
use Rattle.log_report.proofs.whole.report.Goals as goal

pub add-requires : goal.add-requires
add-requires c =
    let same = c.entries-entries.ensures.entries in
    let i = c.loop-entry.entry-index in
    subst (λ (es : List Entry). IsEntry (get_or es i (Arrival 0 0))) (sym same)
    (entry_in_log c.args.log.now.entries i (Arrival 0 0) c.entries-entries.ensures.order
    (subst (λ (es : List Entry). i < length es) same c.loop-entry-test.true))

pub returns-then-is_empty-clause-empty : goal.returns-then-is_empty-clause-empty
returns-then-is_empty-clause-empty c = grind (arith, common_steps)
