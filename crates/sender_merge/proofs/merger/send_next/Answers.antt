use Rattle.std.proofs.Common.{◌∙◌, subst, sym}
use Rattle.packet_record.specs.Streams.{Stream, MayFollow}
use Rattle.sender_merge.specs.Laws.{IsStepUpTo}
use Rattle.sender_merge.proofs.Stepping.{step_within}
use Rattle.sender_merge.proofs.Thinning.{next-follows}
use Rattle.sender_merge.proofs.merger.send_next.Goals as goal

pub next-step-requires-clause-going : goal.next-step-requires-clause-going
next-step-requires-clause-going g c =
    let m = c.requires.going in (m.0, m.1.stands, m.1.thin, m.1.going)

pub send-requires-clause-follows : goal.send-requires-clause-follows
send-requires-clause-follows g c =
    let m = c.requires.going in
    subst (λ (f : Stream). MayFollow f c.in-Item.item) (sym m.1.alike)
    (next-follows m.0 c.in-Item.item m.1.stands m.1.going (sym (c.next-step.ensures.step m.0 m.1.thin) ∙ c.in-Item.is))

pub send-requires-clause-within : goal.send-requires-clause-within
send-requires-clause-within g c =
    let m = c.requires.going in
    subst (IsStepUpTo c.args.to.now.horizon) (sym (c.next-step.ensures.step m.0 m.1.thin) ∙ c.in-Item.is)
    (step_within m.0 c.args.to.now.horizon m.1.within)
