use Rattle.std.proofs.Common.{◌≡◌, drop, length, ap, arith, rules, ◌∙◌}
use Rattle.std.proofs.lemmas.List.{take_at, length-take-le}
use Rattle.link_core.specs.views.Placed.{Placed}
use Rattle.link_core.proofs.places.Places.put.Goals as goal

pub returns-clause-coming : goal.returns-clause-coming
returns-clause-coming c =
    let entered = c.self.inside.entered in
    let fits = c.requires in
    let departed = length-take-le c.self.inside.departed c.self.inside.list.items (omega arith) in
    let departed_is = ap (λ (v : Placed). length v.departed) c.self.view_is in
    let entered_is = ap (λ (v : Placed). v.entered) c.self.view_is in
    let list_is : c.as_mut_slice.result.now ≡ c.self.inside.list.items = search rules in
    ap (drop entered) (take_at c.write_over.new.list _ c.self.inside.list.len (omega arith))
    ∙ c.write_over.ensures.behind entered (omega arith)
    ∙ ap (drop entered) list_is
    ∙ ap (λ (v : Placed). v.coming) c.self.view_is
