use Rattle.std.proofs.Common.{subst}
use Rattle.http_frame.specs.inside.Frames.{IsPending}
use Rattle.http_frame.specs.Forms.{response_form}
use Rattle.http_frame.proofs.FrameLemmas.{from_start, finish_says}
use Rattle.http_frame.proofs.response_frames.advance.Goals as goal

pub finish-later-requires-in-Ok-Head-clause-place : goal.finish-later-requires-in-Ok-Head-clause-place
finish-later-requires-in-Ok-Head-clause-place c = from_start c.in-Ok-Head.read.framing _

pub returns-in-Some : goal.returns-in-Some
returns-in-Some c =
    finish_says (response_form c.args.to_head) c.args.ended c.args.unread.now c.in-Some.pending
    c.finish-later.result.0 c.finish-later.result.1
    (subst (IsPending (response_form c.args.to_head) c.args.unread.now) c.in-Some.is c.requires) c.finish-later.ensures

pub returns-in-Ok-Head : goal.returns-in-Ok-Head
returns-in-Ok-Head c =
    let read = rw c.in-Ok-Head.field-0-is at c.in-Ok-Head.ensures in
    let r = c.in-Ok-Head.read in
    finish_says (response_form c.args.to_head) c.args.ended c.args.unread.now
    (record { head = r.head; len = r.len; framing = r.framing; place = 0 })
    c.finish-later-in-Ok-Head.result.0 c.finish-later-in-Ok-Head.result.1 (read, from_start r.framing _)
    c.finish-later-in-Ok-Head.ensures
