use Rattle.std.proofs.Common.{rules}
use Rattle.command_ends.proofs.outputs.file_written.Goals as goal

pub returns-in_ok-from_text-in-Err : goal.returns-in_ok-from_text-in-Err
returns-in_ok-from_text-in-Err c = search rules
