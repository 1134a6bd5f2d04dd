use Rattle.httparse.proofs.GrammarLemmas.{response_unique}
use Rattle.http_frame.specs.Forms.{response_form}
use Rattle.http_frame.proofs.FindingLemmas.{messages_same}
use Rattle.http_frame.proofs.response_frames.responses_are_found_once.Goals as goal

pub returns : goal.returns
returns c = λ to_head ended a b x y h k p q ps qs e. messages_same (response_form to_head) response_unique ended a b x
    y h k p q ps qs e
