use Rattle.std.proofs.Common.{subst, sym}
use Rattle.http_frame.specs.Forms.{response_form}
use Rattle.http_frame.specs.inside.Frames.{IsPending}
use Rattle.http_frame.proofs.response_frames.ResponseFrames.find.Goals as goal

pub advance-pending-requires : goal.advance-pending-requires
advance-pending-requires c =
    let s = c.self.inside in
    subst (λ ys. IsPending (response_form c.args.head_request) ys c.of_kind-pending.result)
    (sym c.as_slice-unread.ensures)
    (c.of_kind-pending.ensures s.buffer
    (subst (IsPending (response_form s.to_head) s.buffer) (sym c.take.ensures.value) c.self.invariant))
