use Rattle.std.proofs.Common.{rules}
use Rattle.shell_log.proofs.parser.is_header.Goals as goal

pub returns : goal.returns
returns c = search rules
