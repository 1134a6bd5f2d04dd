use Rattle.std.proofs.Common.{◌++◌, []}
use Rattle.shell_log.proofs.PartLaws.{log_order}
use Rattle.shell_log.proofs.reading.read_text.Goals as goal

pub add-requires-clause-order : goal.add-requires-clause-order
add-requires-clause-order c =
    rw c.in_ok-reserve-2.ensures.same
    (log_order c.entries.log.entries c.in-Some.entry
    (c.in-Some.ensures.some (c.args.text.now ++ []) [] c.entries.log.entries c.entries.invariant).log)
