use Rattle.std.proofs.Common.{subst}
use Rattle.nest_core.specs.Worlds.{WorldParts}
use Rattle.nest_core.specs.Promises.{departed_of, sent_stream, IsFrontUntil, IsSettled}
use Rattle.nest_core.specs.views.World.{world_view}
use Rattle.nest_core.proofs.Leading.{world_keeps}
use Rattle.nest_core.proofs.Settling.{settled_front}
use Rattle.nest_core.proofs.world.World.collected.Goals as goal

pub returns-clause-front : goal.returns-clause-front
returns-clause-front c =
    subst (λ (w : WorldParts). IsFrontUntil w.line.collected.bound w.line.collected.packets (departed_of w))
    c.self.view_is (world_keeps (world_view c.self.inside) c.self.invariant).collected

pub returns-clause-settled : goal.returns-clause-settled
returns-clause-settled c =
    subst (λ (w : WorldParts). IsSettled w → IsFrontUntil (sent_stream w).bound w.line.collected.packets
    (departed_of w)) c.self.view_is
    (settled_front (world_view c.self.inside) c.self.invariant)
