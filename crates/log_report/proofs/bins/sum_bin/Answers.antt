use Rattle.std.proofs.Common.{arith}
use Rattle.shell_log.specs.declared.entry.Entry.TheVariants.{Arrival}
use Rattle.log_report.proofs.SumLaws.{entry_in_log}
use Rattle.log_report.proofs.bins.sum_bin.Goals as goal

pub add-requires-clause-form : goal.add-requires-clause-form
add-requires-clause-form c = entry_in_log c.args.entries.now c.loop-entry.entry-index (Arrival 0 0) c.requires.log
    c.loop-entry-test.true
