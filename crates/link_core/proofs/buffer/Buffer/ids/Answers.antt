use Rattle.std.proofs.Common.{rules}
use Rattle.link_core.proofs.buffer.Buffer.ids.Goals as goal

pub returns : goal.returns
returns c = search rules
