use Rattle.std.proofs.Common.{◌≡◌, ◌≤◌, ◌-◌, arith}
use Rattle.replay_server.specs.Servings.{most_served}
use Rattle.replay_server.proofs.PoolLemmas.{pool_ends, pool_lost, tally_most}
use Rattle.replay_server.proofs.pool.take_all.Goals as goal

pub returns-in_default : goal.returns-in_default
returns-in_default g c = λ start pool.
    let x = c.out.invariant.moved start pool in
    let s = c.out.standing in
    record {
      serving = pool_lost g.K.Serving.store g.K.Serving.site_port g.P.Conn.Link.view start
          (g.P.Port.view c.out.port) s.begun s.out s.ends x;
      listened = x.listened_is;
      within = tt;
    }

pub returns : goal.returns
returns g c = λ start pool.
    let x = c.out.invariant.moved start pool in
    let s = c.out.standing in
    let over = c.out-test.false in
    let few = c.out.invariant.few in
    let none : s.out ≡ 0 = omega (arith, over) in
    let less : s.begun - s.out ≤ most_served = omega (arith, few) in
    record {
      serving = pool_ends g.K.Serving.store g.K.Serving.site_port g.P.Conn.Link.view start
          (g.P.Port.view c.out.port) s.begun s.out s.ends none c.out.invariant.stopped x;
      listened = x.listened_is;
      within = tally_most (s.begun - s.out) most_served s.ends less c.out.invariant.counted;
    }
