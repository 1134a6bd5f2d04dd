use Rattle.std.proofs.Common.{rules}
use Rattle.http_frame.proofs.request_frames.RequestFrames.take_off.Goals as goal

pub returns : goal.returns
returns c = search rules
