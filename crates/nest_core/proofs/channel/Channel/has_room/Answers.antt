use Rattle.std.proofs.Common.{rules}
use Rattle.nest_core.proofs.channel.Channel.has_room.Goals as goal

pub returns : goal.returns
returns c = search rules
