use Rattle.std.proofs.Common.{rules}
use Rattle.trace_reader.proofs.line.read_pair.Goals as goal

pub returns-in_err-moment : goal.returns-in_err-moment
returns-in_err-moment c = search rules

pub returns-in_err-bytes : goal.returns-in_err-bytes
returns-in_err-bytes c = search rules
