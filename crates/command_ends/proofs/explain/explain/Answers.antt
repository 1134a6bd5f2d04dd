use Rattle.std.proofs.Common.{ap, ◌∙◌}
use Rattle.std.specs.Prelude.{Err}
use Rattle.mm_base.specs.declared.errors.EndError.{EndError}
use Rattle.command_ends.proofs.SendLemmas.{concludes_cut, concludes_sent, concludes_wants}
use Rattle.command_ends.proofs.explain.explain.Goals as goal

pub returns-in-Ok : goal.returns-in-Ok
returns-in-Ok g c = concludes_sent c.args.cause.now _ _ _ c.status.ensures c.in-Ok.ensures.ok c.in-Ok.ensures.counts

pub returns-in-Err-Failed : goal.returns-in-Err-Failed
returns-in-Err-Failed g c =
    concludes_cut c.args.cause.now _ _ c.send_line.result _ c.send_line.ensures (c.in-Err-Failed.is
    ∙ ap (λ (e : EndError). Err e) c.in-Err-Failed.field-0-is) c.status-in-Err-Failed.ensures

pub returns-in-Err-OutOfMemory : goal.returns-in-Err-OutOfMemory
returns-in-Err-OutOfMemory g c = concludes_wants c.args.cause.now _ _ c.send_line.result c.send_line.ensures
    (c.in-Err-OutOfMemory.is ∙ ap (λ (e : EndError). Err e) c.in-Err-OutOfMemory.field-0-is)
