use Rattle.record_proxy.specs.Servings.{net}
use Rattle.record_proxy.proofs.PoolLemmas.{pool_back}
use Rattle.record_proxy.proofs.pool.take_back.Goals as goal

pub returns-clause-moves : goal.returns-clause-moves
returns-clause-moves g c = λ start pool.
    let port = g.P.Port.view c.args.port.now in
    let dialer = g.X.Dialer.view c.args.dialer.now in
    let passed = c.args.passed in
    let done = c.finish_dialed-done.ensures in
    let one = c.in_ok-with_one_back.ensures.one in
    pool_back g.K.Site.port g.P.Conn.Link.view g.X.Conn.Link.view start (net port dialer)
    (net (g.P.Port.view c.finish_client.new.port) (g.X.Dialer.view c.finish_dialed-done.new.dialer)) c.args.standing
    c.in_ok-with_one_back.field-0 passed.client passed.server passed.records passed.end pool passed.joined c.requires
    done.dialed done.counts c.finish_client.ensures.accepted c.in_ok-finish_client.ensures.finished
    c.finish_client.ensures.keeps c.in_ok-with_one_back.ensures.records one.0 one.1 c.finish_dialed-done.result
    c.in_ok-counted.counted c.in_ok-counted.ensures.ok done.finished done.failed_cause
    c.in_ok-with_one_back.ensures.served
