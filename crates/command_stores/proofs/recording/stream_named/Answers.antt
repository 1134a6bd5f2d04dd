use Rattle.std.proofs.Common.{rules}
use Rattle.command_stores.proofs.recording.stream_named.Goals as goal

pub returns-in-BadRequest : goal.returns-in-BadRequest
returns-in-BadRequest c = search rules
