use Rattle.std.proofs.Common.{◌≤◌}
use Rattle.replay_server.specs.Servings.{most_served}
use Rattle.replay_server.specs.inside.Pools.{IsCounted, IsStopped, MovesPool}
use Rattle.replay_server.proofs.pool.take_all.Given as goal

abbrev pub invariant-out : goal.invariant-out
invariant-out g l = record {
  moved : MovesPool g.K.Serving.store g.K.Serving.site_port g.P.Conn.Link.view (g.P.Port.view l.fn.port) l.fn.standing
      (g.P.Port.view l.port) l.standing;
  stopped : IsStopped (g.P.Port.view l.port) l.standing;
  few : l.standing.begun ≤ most_served;
  counted : IsCounted l.standing;
}

abbrev pub decreases-out : goal.decreases-out
decreases-out g l = l.standing.out
