use Rattle.std.proofs.Common.{sym, subst}
use Rattle.mark_channel.specs.Ends.{End}
use Rattle.mark_channel.specs.inside.Ends.{MayPass}
use Rattle.mark_channel.proofs.Keeps.{sends}
use Rattle.mark_channel.proofs.sender.Sender.send_at_once.Goals as goal

pub try_send_as-requires-clause-rule : goal.try_send_as-requires-clause-rule
try_send_as-requires-clause-rule g c =
    let i = c.self.invariant in
    let may = subst (λ (e : End). MayPass e c.args.item) (sym c.self.view_is) c.requires in
    (sends _ _ _ _ i.1 i.2 may.0 may.1, λ items views h at. tt)
