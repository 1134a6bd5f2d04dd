use Rattle.std.proofs.Common.{sym, subst}
use Rattle.mm_base.specs.Link.{LinkView}
use Rattle.replay_server.specs.Links.{IsServed}
use Rattle.replay_server.proofs.session.serve_link.Goals as goal

pub returns-clause-served : goal.returns-clause-served
returns-clause-served g c =
    let source = c.args.server.now.source in
    subst (λ (v : LinkView). IsServed source.store.now source.index.port (g.L.Link.view c.args.link.now).told v.told
    c.hold-end.result) (sym c.leave.ensures)
    c.hold-end.ensures.served
