use Rattle.replay_server.proofs.pool.serve_pool.Given as goal

abbrev pub ghosts-run_pool : goal.ghosts-run_pool
ghosts-run_pool g a = record { store = a.server.now.source.store.now; site_port = a.server.now.source.index.port }
