use Rattle.replay_server.proofs.ServingLemmas.{fresh_served}
use Rattle.replay_server.proofs.serving.serve_fresh.Goals as goal

pub returns : goal.returns
returns g c = fresh_served _ _ _ _ _ c.requires c.serve_link.ensures.served c.serve_link.ensures.cause
