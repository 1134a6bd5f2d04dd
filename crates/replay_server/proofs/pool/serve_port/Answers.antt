use Rattle.replay_server.proofs.pool.serve_port.Goals as goal

pub returns : goal.returns
returns g c = c.take_all.ensures (g.P.Port.view c.args.port.now) c.admit_or_serve-standing.ensures.pool
