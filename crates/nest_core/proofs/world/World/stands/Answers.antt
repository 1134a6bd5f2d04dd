use Rattle.std.proofs.Common.{subst}
use Rattle.nest_core.specs.Promises.{Keeps}
use Rattle.nest_core.specs.views.World.{world_view}
use Rattle.nest_core.proofs.Leading.{world_keeps}
use Rattle.nest_core.proofs.world.World.stands.Goals as goal

pub returns : goal.returns
returns c = subst Keeps c.self.view_is (world_keeps (world_view c.self.inside) c.self.invariant)
