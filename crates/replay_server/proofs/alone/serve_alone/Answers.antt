use Rattle.std.proofs.Common.{Ok, arith}
use Rattle.replay_server.specs.Servings.{no_ends}
use Rattle.replay_server.proofs.PoolLemmas.{pool_at, pool_none}
use Rattle.replay_server.proofs.alone.serve_alone.Goals as goal

pub open-init : goal.open-init
open-init g c =
    let store = g.K.Serving.store in
    let site = g.K.Serving.site_port in
    let view = g.P.Conn.Link.view in
    let port = g.P.Port.view c.args.port.now in
    let new = c.new-standing.result in
    let empty = c.new-standing.ensures.empty in
    let none = empty.0 in
    record {
      stands = pool_at store site view port port new.begun new.out new.ends 0 0 (Ok no_ends) none empty.1 empty.2
          (pool_none store site view port);
      few = omega (arith, none);
      counted = c.new-standing.ensures.counted;
    }
