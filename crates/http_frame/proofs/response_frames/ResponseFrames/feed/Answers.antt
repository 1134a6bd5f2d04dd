use Rattle.http_frame.specs.Forms.{response_form}
use Rattle.http_frame.proofs.FrameLemmas.{pending_after}
use Rattle.http_frame.proofs.response_frames.ResponseFrames.feed.Goals as goal

pub invariant_of-self : goal.invariant_of-self
invariant_of-self c =
    pending_after (response_form c.self.inside.to_head) c.self.inside.buffer c.args.piece.now c.append.new.self
    c.self.inside.pending c.append.result c.self.invariant c.append.ensures.ok c.append.ensures.err
