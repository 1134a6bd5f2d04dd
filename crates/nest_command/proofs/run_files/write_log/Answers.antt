use Rattle.nest_command.proofs.OutputLemmas.{same_answer}
use Rattle.nest_command.proofs.run_files.write_log.Goals as goal

pub returns-clause-partly : goal.returns-clause-partly
returns-clause-partly g c = same_answer _ c.save_log-written.result c.file_written.result c.file_written.ensures.done
    (rw c.as_str.ensures at c.save_log-written.ensures.err)
