use Rattle.replay_server.proofs.GivingLemmas.{on_ok_map, poured_through}
use Rattle.replay_server.proofs.giving.gather.Goals as goal

pub returns-then-piece-gt-MOST_GATHERED-clause-ok : goal.returns-then-piece-gt-MOST_GATHERED-clause-ok
returns-then-piece-gt-MOST_GATHERED-clause-ok g c =
    on_ok_map c.give.result (poured_through _ _ _ _ _ _ c.in_ok-flush.ensures.pours c.in_ok-flush.ensures.ok)
    c.give.ensures.ok
