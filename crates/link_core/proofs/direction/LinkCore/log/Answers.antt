use Rattle.std.proofs.Common.{rules}
use Rattle.link_core.proofs.CoverLemmas.{sound_rises, sound_covered}
use Rattle.link_core.proofs.direction.LinkCore.log.Goals as goal

pub of-requires-clause-rises : goal.of-requires-clause-rises
of-requires-clause-rises c = rw (c.in_ok-arrivals.ensures.items, c.come.ensures)
    (sound_rises _ _ _ _ _ _ _ _ _ _ _ c.self.invariant.0)

pub of-requires-clause-covered : goal.of-requires-clause-covered
of-requires-clause-covered c = rw (c.in_ok-arrivals.ensures.items, c.come.ensures, c.in_ok-opportunities.ensures)
    (sound_covered _ _ _ _ _ _ _ _ _ _ _ c.self.invariant.0)

pub returns : goal.returns
returns c = search rules
