use Rattle.replay_server.proofs.PoolLemmas.{pool_idle}
use Rattle.replay_server.proofs.pool.fn.serve_with.join_mut+arg3.Goals as goal

pub returns-in-None : goal.returns-in-None
returns-in-None g c =
    pool_idle g.K.Serving.store g.K.Serving.site_port g.P.Conn.Link.view (g.P.Port.view c.captures.port.now)
