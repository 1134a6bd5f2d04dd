use Rattle.std.proofs.Common.{refl}
use Rattle.record_proxy.specs.Servings.{net}
use Rattle.record_proxy.proofs.PoolLemmas.{keeps_same, pool_none, served_after}
use Rattle.record_proxy.proofs.pool.serve_port.Goals as goal

pub returns-clause-serving : goal.returns-clause-serving
returns-clause-serving g c =
    let site_port = g.K.Site.port in
    let client_view = g.P.Conn.Link.view in
    let server_view = g.X.Conn.Link.view in
    let port = g.P.Port.view c.args.port.now in
    let dialer = g.X.Dialer.view c.args.dialer.now in
    let first = c.new-standing.ensures in
    let admitted = c.in_ok-standing.ensures in
    let taken = c.take_all.ensures in
    served_after site_port client_view server_view (net port dialer)
    (net (g.P.Port.view c.admit_all.new.port) (g.X.Dialer.view c.admit_all.new.dialer))
    (net (g.P.Port.view c.take_all.new.port) (g.X.Dialer.view c.take_all.new.dialer)) c.in_ok-standing.standing
    c.take_all.result
    (admitted.moves (net port dialer)
    (pool_none site_port client_view server_view port port dialer c.new-standing.result (keeps_same port) refl refl
    first.records first.served first.none.0 first.none.1))
    admitted.stopped admitted.few taken.keeps taken.moves taken.none taken.same
