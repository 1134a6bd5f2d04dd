use Rattle.std.proofs.Common.{sym, subst}
use Rattle.mm_base.specs.Link.{LinkView}
use Rattle.replay_server.specs.Links.{IsServed}
use Rattle.replay_server.specs.declared.ends.ConnEnd.TheVariants.{OutOfMemory}
use Rattle.replay_server.proofs.StepLemmas.{no_memory_at_first}
use Rattle.replay_server.proofs.session.serve_conn.Goals as goal

pub returns-in-Err-clause-served : goal.returns-in-Err-clause-served
returns-in-Err-clause-served g c =
    let old = g.L.Link.view c.args.link.now in
    subst (λ (v : LinkView). IsServed c.args.store.now c.args.site_port old.told v.told OutOfMemory)
    (sym c.leave.ensures) (no_memory_at_first old.told)
