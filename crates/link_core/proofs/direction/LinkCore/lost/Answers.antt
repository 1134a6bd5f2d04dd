use Rattle.std.proofs.Common.{ap, ◌∙◌}
use Rattle.link_core.specs.View.{lost_of}
use Rattle.link_core.proofs.SeenLemmas.{seen_lost}
use Rattle.link_core.proofs.direction.LinkCore.lost.Goals as goal

pub returns : goal.returns
returns c = c.lost.ensures ∙ seen_lost _ _ _ _ _ _ _ _ _ _ _ c.self.invariant.0 ∙ ap lost_of c.self.view_is
