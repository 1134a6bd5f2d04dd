use Rattle.std.proofs.Common.{◌≡◌, ◌≤◌}
use Rattle.mm_base.specs.Listened.{listened_at}
use Rattle.record_proxy.specs.Asking.{OnlyAsks}
use Rattle.record_proxy.specs.Servings.{net}
use Rattle.record_proxy.specs.inside.Passing.{ServesSoFar}
use Rattle.record_proxy.proofs.serving.serve.Given as goal

abbrev pub invariant-clients : goal.invariant-clients
invariant-clients g l = record {
  so_far : ServesSoFar l.job.site_port g.P.Conn.Link.view g.X.Conn.Link.view (net (g.P.Port.view l.fn.port)
      (g.X.Dialer.view l.fn.dialer)) (net (g.P.Port.view l.port) (g.X.Dialer.view l.dialer)) l.fn.store l.store l.served
      l.left
      l.job.connections;
  few : l.job.connections ≤ 64;
  listens : (g.P.Port.view l.port).listened ≡ listened_at l.job.port (g.P.Port.view l.fn.port).listened;
  asks : OnlyAsks l.job.site_port (g.X.Dialer.view l.fn.dialer).asked (g.X.Dialer.view l.dialer).asked;
}

abbrev pub decreases-clients : goal.decreases-clients
decreases-clients g l = l.left
