use Rattle.std.proofs.Common.{rules}
use Rattle.http_frame.proofs.request_frames.RequestFrames.find.Goals as goal

pub returns-in-Ok-Fault : goal.returns-in-Ok-Fault
returns-in-Ok-Fault c = search rules
