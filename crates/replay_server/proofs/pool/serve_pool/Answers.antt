use Rattle.std.proofs.Common.{◌∙◌, true, ap, Err}
use Rattle.replay_server.specs.Servings.{most_served}
use Rattle.replay_server.proofs.ServingLemmas.{serving_unheard}
use Rattle.replay_server.proofs.pool.serve_pool.Goals as goal

pub returns-in-Err-Failed-clause-serving : goal.returns-in-Err-Failed-clause-serving
returns-in-Err-Failed-clause-serving g c =
    serving_unheard c.args.store.now c.args.plan.site_port g.P.Conn.Link.view true most_served
    (g.P.Port.view c.args.port.now) (g.P.Port.view c.listen.new.self) c.listen.ensures.keeps c.listen.ensures.finished
    c.listen.ensures.accepted
    (c.listen.ensures.failed_cause (c.in-Err-Failed.is ∙ ap Err c.in-Err-Failed.field-0-is))
