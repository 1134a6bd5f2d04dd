use Rattle.std.proofs.Common.{◌≡◌}
use Rattle.replay_server.specs.inside.Pools.{IsCounted, MovesPool}
use Rattle.replay_server.proofs.pool.clear.Given as goal

abbrev pub invariant-done : goal.invariant-done
invariant-done g l = record {
  moved : MovesPool g.K.Serving.store g.K.Serving.site_port g.P.Conn.Link.view (g.P.Port.view l.fn.port) l.fn.standing
      (g.P.Port.view l.port) l.standing;
  counted : IsCounted l.standing;
  begun : l.standing.begun ≡ l.fn.standing.begun;
}

abbrev pub decreases-done : goal.decreases-done
decreases-done g l = l.standing.out
