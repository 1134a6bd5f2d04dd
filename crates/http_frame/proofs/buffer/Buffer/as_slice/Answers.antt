use Rattle.std.proofs.Common.{rules}
use Rattle.http_frame.proofs.buffer.Buffer.as_slice.Goals as goal

pub returns : goal.returns
returns c = search rules
