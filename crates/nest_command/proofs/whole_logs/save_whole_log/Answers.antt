use Rattle.nest_command.proofs.whole_logs.save_whole_log.Goals as goal

pub returns-clause-ok : goal.returns-clause-ok
returns-clause-ok g c = rw c.entries.ensures.entries at c.save_lines.ensures.ok

pub returns-clause-err : goal.returns-clause-err
returns-clause-err g c = rw c.entries.ensures.entries at c.save_lines.ensures.err
