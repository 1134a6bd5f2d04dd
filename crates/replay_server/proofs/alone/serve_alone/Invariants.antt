use Rattle.std.proofs.Common.{◌≤◌, ◌-◌}
use Rattle.replay_server.specs.Servings.{most_served}
use Rattle.replay_server.specs.inside.Pools.{InPool, IsCounted}
use Rattle.replay_server.proofs.alone.serve_alone.Given as goal

abbrev pub invariant-open : goal.invariant-open
invariant-open g l = record {
  stands : InPool g.K.Serving.store g.K.Serving.site_port g.P.Conn.Link.view (g.P.Port.view l.fn.port)
      (g.P.Port.view l.port) l.standing;
  few : l.standing.begun ≤ most_served;
  counted : IsCounted l.standing;
}

abbrev pub decreases-open : goal.decreases-open
decreases-open g l = most_served - l.standing.begun
