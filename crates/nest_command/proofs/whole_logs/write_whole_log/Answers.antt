use Rattle.nest_command.proofs.OutputLemmas.{same_answer}
use Rattle.nest_command.proofs.whole_logs.write_whole_log.Goals as goal

pub returns-clause-partly : goal.returns-clause-partly
returns-clause-partly g c =
    same_answer _ c.save_whole_log-written.result c.file_written.result c.file_written.ensures.done
    (rw c.as_str-name.ensures at c.save_whole_log-written.ensures.err)
