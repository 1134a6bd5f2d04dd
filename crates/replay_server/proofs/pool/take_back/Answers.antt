use Rattle.replay_server.proofs.PoolLemmas.{pool_at, pool_finishes}
use Rattle.replay_server.proofs.pool.take_back.Goals as goal

pub returns-clause-pool : goal.returns-clause-pool
returns-clause-pool g c = λ start pool.
    let store = g.K.Serving.store in
    let site = g.K.Serving.site_port in
    let view = g.P.Conn.Link.view in
    let s = c.args.standing in
    let one = c.finished.ensures.one in
    pool_at store site view start _ _ _ _ _ _ _ one.0 one.1 one.2
    (pool_finishes store site view start _ _ c.args.ended.conn c.args.ended.end c.args.ended.served s.begun s.out
    c.requires.some c.finish-done.ensures.accepted c.finish-done.ensures.listened
    c.finish-done.ensures.keeps c.finish-done.result s.ends pool
    c.finish-done.ensures.finished c.finish-done.ensures.failed_cause)
