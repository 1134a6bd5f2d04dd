use Rattle.std.proofs.Common.{◌∙◌, refl}
use Rattle.replay_server.proofs.pool.clear.Goals as goal

pub done-init : goal.done-init
done-init g c = record { moved = λ start pool. pool; counted = c.requires.counted; begun = refl }

pub done-preserved : goal.done-preserved
done-preserved g c = record {
  moved = λ start pool. c.take_back-standing.ensures.pool start (c.done.invariant.moved start pool);
  counted = c.take_back-standing.ensures.counted;
  begun = c.take_back-standing.ensures.same ∙ c.done.invariant.begun;
}
