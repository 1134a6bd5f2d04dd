use Rattle.std.proofs.Common.{◌++◌, take, drop, ap, sym, ◌∙◌}
use Rattle.std.proofs.lemmas.List.{drop-drop}
use Rattle.std.proofs.Math.Seq.{take-add}
use Rattle.link_core.specs.views.Arriving.{Arriving}
use Rattle.link_core.proofs.arrivals.Arrivals.enter.Goals as goal

pub returns-clause-come : goal.returns-clause-come
returns-clause-come c =
    take-add c.self.inside.entered 1 c.self.inside.list.items
    ∙ ap (λ (v : Arriving). v.come ++ take 1 v.coming) c.self.view_is

pub returns-clause-coming : goal.returns-clause-coming
returns-clause-coming c =
    sym (drop-drop 1 c.self.inside.entered c.self.inside.list.items)
    ∙ ap (λ (v : Arriving). drop 1 v.coming) c.self.view_is
