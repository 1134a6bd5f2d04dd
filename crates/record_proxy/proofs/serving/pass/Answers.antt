use Rattle.record_proxy.proofs.ServingLemmas.{if_ok, dials_joined}
use Rattle.record_proxy.proofs.serving.pass.Goals as goal

pub returns-in-Ok-clause-dials : goal.returns-in-Ok-clause-dials
returns-in-Ok-clause-dials g c =
    if_ok c.join.result
    (λ end j.
    dials_joined c.args.site_port g.X.Conn.Link.view (g.A.Link.view c.join.new.client)
    (g.X.Dialer.view c.args.dialer.now) (g.X.Dialer.view c.dial.new.self) (g.X.Dialer.view c.join.new.dialer)
    c.args.store.now c.join.new.store end
    c.in-Ok.ensures.ok.0 c.in-Ok.ensures.finished c.in-Ok.ensures.counts j)
    c.join.ensures.joins
