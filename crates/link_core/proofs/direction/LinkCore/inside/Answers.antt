use Rattle.std.proofs.Common.{◌≡◌, List, map, IfOk, ap, subst, ◌∙◌}
use Rattle.packet_record.specs.declared.packet.Timed.{Timed}
use Rattle.link_core.specs.View.{inside_of}
use Rattle.link_core.proofs.SeenLemmas.{seen_inside}
use Rattle.link_core.proofs.direction.LinkCore.inside.Goals as goal

pub returns : goal.returns
returns c =
    let P : List Timed → Type 0 = λ ts. IfOk c.ids.result (λ ids. ids.items ≡ map (λ (t : Timed). t.packet.id) ts) in
    subst P (seen_inside _ _ _ _ _ _ _ _ _ _ _ c.self.invariant.0 ∙ ap inside_of c.self.view_is) c.ids.ensures
