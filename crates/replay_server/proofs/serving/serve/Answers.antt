use Rattle.std.proofs.Common.{◌∙◌, false, ap, ℕ, List, Option, Err, refl, subst}
use Rattle.mm_base.specs.Listened.{after_listen}
use Rattle.mm_base.specs.declared.errors.EndError.TheVariants as refusals
use Rattle.record_store.specs.declared.record.Record.{Record}
use Rattle.replay_server.specs.Servings.{IsServing}
use Rattle.replay_server.proofs.ServingLemmas.{serving_listened, serving_refused, serving_unheard, keeps_same}
use Rattle.replay_server.proofs.ServingLemmas.{listens_once}
use Rattle.replay_server.proofs.serving.serve.Goals as goal

pub returns-in_default-clause-serving : goal.returns-in_default-clause-serving
returns-in_default-clause-serving g c =
    let port = g.P.Port.view c.args.port.now in
    serving_refused c.args.store.now c.args.site_port g.P.Conn.Link.view false c.args.connections port port
    refusals.OutOfMemory (keeps_same port) refl refl (λ is. absurd (cc is))

pub returns-in-Err-Failed-clause-serving : goal.returns-in-Err-Failed-clause-serving
returns-in-Err-Failed-clause-serving g c =
    serving_unheard c.args.store.now c.args.site_port g.P.Conn.Link.view false c.args.connections
    (g.P.Port.view c.args.port.now) (g.P.Port.view c.listen.new.self) c.listen.ensures.keeps c.listen.ensures.finished
    c.listen.ensures.accepted
    (c.listen.ensures.failed_cause (c.in-Err-Failed.is ∙ ap Err c.in-Err-Failed.field-0-is))

pub returns-clause-serving : goal.returns-clause-serving
returns-clause-serving g c =
    serving_refused c.args.store.now c.args.site_port g.P.Conn.Link.view false c.args.connections
    (g.P.Port.view c.args.port.now) (g.P.Port.view c.listen.new.self) refusals.OutOfMemory
    c.listen.ensures.keeps c.listen.ensures.finished c.listen.ensures.accepted (λ is. absurd (cc is))

pub returns-in-Ok-listen-clause-serving : goal.returns-in-Ok-listen-clause-serving
returns-in-Ok-listen-clause-serving g c =
    let view = g.P.Conn.Link.view in
    let before = g.P.Port.view c.args.port.now in
    let after = g.P.Port.view c.serve_from.new.port in
    let result = c.serve_from.result in
    subst (λ (store : List Record). IsServing store c.args.site_port view false c.args.connections before after result)
    (c.in-Ok.ensures.0)
    (subst (λ (site : Option ℕ).
    IsServing c.in-Ok.source.store.now site view false c.args.connections before after result)
    (c.in-Ok.ensures.1)
    (serving_listened c.in-Ok.source.store.now c.in-Ok.source.index.port view false c.args.connections before
    (g.P.Port.view c.listen.new.self) after c.listen.ensures.keeps c.listen.ensures.finished c.listen.ensures.accepted
    result c.serve_from.ensures.within c.serve_from.ensures.serving))

pub returns-in-Ok-listen-clause-listens : goal.returns-in-Ok-listen-clause-listens
returns-in-Ok-listen-clause-listens g c =
    let before = g.P.Port.view c.args.port.now in
    let after = g.P.Port.view c.serve_from.new.port in
    listens_once c.args.store.now c.args.site_port g.P.Conn.Link.view false before after c.args.number
    c.args.connections c.serve_from.result c.serve_from.ensures.within
    (c.serve_from.ensures.listened ∙ c.listen.ensures.listened ∙ ap (λ answer. after_listen c.args.number answer before.listened) c.in-Ok-listen.is)
