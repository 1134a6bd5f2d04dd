use Rattle.std.proofs.lemmas.Result.{IfOk-weaker}
use Rattle.nest_core.specs.views.World.{world_view}
use Rattle.nest_core.proofs.Settling.{passed_by}
use Rattle.nest_core.proofs.world.World.into_states.Goals as goal

pub returns : goal.returns
returns c = IfOk-weaker c.states_of.result _ _
    (λ states e. passed_by (world_view c.self.inside) _ states.items c.self.view_is c.reached.ensures c.requires e)
    c.states_of.ensures
