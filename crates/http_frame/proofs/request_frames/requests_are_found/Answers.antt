use Rattle.http_frame.proofs.RunLemmas.{messages_there}
use Rattle.http_frame.proofs.request_frames.requests_are_found.Goals as goal

pub returns : goal.returns
returns c = messages_there
