use Rattle.std.proofs.Common.{rules}
use Rattle.command_stores.proofs.request_file.RequestError.number.Goals as goal

pub returns-in-NotOne : goal.returns-in-NotOne
returns-in-NotOne c = search rules
