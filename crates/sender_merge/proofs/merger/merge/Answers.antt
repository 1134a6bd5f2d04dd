use Rattle.std.proofs.Common.{◌∙◌, ap, rules}
use Rattle.mark_channel.specs.Ends.{End, IsSameEnd}
use Rattle.sender_merge.proofs.Inletting.{same-on}
use Rattle.sender_merge.proofs.merger.merge.Goals as goal
use Rattle.sender_merge.proofs.merger.merge.Goals.{in-Ok-OutOfMemory, in-Err}

pub returns-clause-same : goal.returns-clause-same
returns-clause-same g c =
    let was = c.merge_all.ensures.same in
    let ends : IsSameEnd c.args.to.now c.match-merge_all.to =
    elim c.match-merge_all.branch [
      | in-Ok-OutOfMemory w ↦ (
        ap (λ (e : End). e.horizon) w.to-is ∙ was.1.0,
        ap (λ (e : End). e.channel) w.to-is ∙ was.1.1,
      )
      | in-Err w ↦ (
        ap (λ (e : End). e.horizon) w.to-is ∙ w.send.ensures.same.0 ∙ was.1.0,
        ap (λ (e : End). e.channel) w.to-is ∙ w.send.ensures.same.1 ∙ was.1.1,
      )
    ] in
    (same-on c.args.inlets.now c.merge_all.new.inlets c.receive_rest.new.inlets was.0 c.receive_rest.ensures.same, ends)

pub returns-clause-merged : goal.returns-clause-merged
returns-clause-merged g c = search rules
