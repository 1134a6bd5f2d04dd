use Rattle.std.proofs.Common.{ap, ◌∙◌}
use Rattle.link_core.specs.View.{out_of}
use Rattle.link_core.proofs.SeenLemmas.{seen_out}
use Rattle.link_core.proofs.direction.LinkCore.departed.Goals as goal

pub returns : goal.returns
returns c = c.as_slice.ensures.value ∙ seen_out _ _ _ _ _ _ _ _ _ _ _ c.self.invariant.0 ∙ ap out_of c.self.view_is
