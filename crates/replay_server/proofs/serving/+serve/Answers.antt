use Rattle.std.proofs.Common.{◌≡◌, ◌∙◌, ◌<◌, ◌+◌, inl, inr, true, false, Err, refl, sym, ap, subst, rules, arith}
use Rattle.std.specs.Prelude.{Result}
use Rattle.mm_base.specs.Link.{IsFresh}
use Rattle.replay_server.specs.Servings.{IsServing}
use Rattle.replay_server.specs.inside.Tallies.{tallied}
use Rattle.replay_server.specs.declared.ends.Served.{Served}
use Rattle.replay_server.specs.declared.ends.ServeError.{ServeError}
use Rattle.replay_server.proofs.ServingLemmas.{keeps_same, serving_none, serving_refused, serving_more}
use Rattle.replay_server.proofs.serving.+serve.Goals as goal

pub serve_from-returns-then-most-eq0-clause-serving : goal.serve_from-returns-then-most-eq0-clause-serving
serve_from-returns-then-most-eq0-clause-serving g t c =
    serving_none _ _ _ false _ _ _ _ (keeps_same (g.P.Port.view c.args.port.now)) refl refl c.none.ensures
    (inl c.if-most-eq0.true)

pub serve_from-returns-in-Err-clause-serving : goal.serve_from-returns-in-Err-clause-serving
serve_from-returns-in-Err-clause-serving g t c =
    let old = g.P.Port.view c.args.port.now in
    let new = g.P.Port.view c.accept.new.self in
    let store = c.args.server.now.source.store.now in
    let site = c.args.server.now.source.index.port in
    subst (λ (e : ServeError). IsServing store site g.P.Conn.Link.view false c.args.most old new (Err e))
    (sym c.refused.ensures)
    (serving_refused store site g.P.Conn.Link.view false c.args.most old new c.in-Err.error c.in-Err.ensures.keeps
    c.in-Err.ensures.finished c.in-Err.ensures.err
    (λ is. c.in-Err.ensures.failed_cause (ap Err is)))

pub serve_from-returns-in_default-clause-serving : goal.serve_from-returns-in_default-clause-serving
serve_from-returns-in_default-clause-serving g t c =
    let old = g.P.Port.view c.args.port.now in
    let new = g.P.Port.view c.accept.new.self in
    let told : (new.accepted ≡ old.accepted) × (new.drained ≡ true) = search rules in
    let some : 0 < c.args.most = let none = c.if-most-eq0.false in omega (arith, none) in
    serving_none _ _ _ false _ old new _ c.in-Ok.ensures.keeps c.in-Ok.ensures.finished told.0
    c.none-in_default.ensures (inr (some, told.1))

pub serve_from-returns-clause-serving : goal.serve_from-returns-clause-serving
serve_from-returns-clause-serving g t c =
    let store = c.args.server.now.source.store.now in
    let site = c.args.server.now.source.index.port in
    let view = g.P.Conn.Link.view in
    let before = g.P.Port.view c.args.port.now in
    let asked = g.P.Port.view c.accept.new.self in
    let served = g.P.Port.view c.serve_beside-conn.new.port in
    let after = g.P.Port.view c.finish-done.new.port in
    let told : (asked.accepted ≡ before.accepted + 1) × IsFresh (view c.in-Some.conn) = search rules in
    let some : 0 < c.args.most = let none = c.if-most-eq0.false in omega (arith, none) in
    let rest = c.serve_beside-conn.result.2 in
    subst (λ (r : Result Served ServeError). IsServing store site view false c.args.most before after r)
    (sym (c.tally.ensures ∙ ap (tallied c.finish-done.result) c.count_end.ensures.ended))
    (serving_more store site view false c.args.most some before asked served after c.serve_beside-conn.result.0
    c.serve_beside-conn.result.1 c.serve_beside-conn.ensures.one
    told.0 c.in-Ok.ensures.finished c.in-Ok.ensures.keeps c.finish-done.ensures.accepted c.finish-done.ensures.keeps
    c.finish-done.result rest
    c.serve_beside-conn.ensures.rest c.serve_beside-conn.ensures.within c.finish-done.ensures.finished
    c.finish-done.ensures.failed_cause)
