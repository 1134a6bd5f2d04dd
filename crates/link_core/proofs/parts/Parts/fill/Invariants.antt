use Rattle.std.proofs.Common.{◌≡◌, ◌++◌, true}
use Rattle.link_core.specs.inside.Sound.{IsSoundAfter, keeping_arrivals}
use Rattle.link_core.specs.inside.Play.{CanPlay, work}
use Rattle.link_core.specs.views.Play.{rest_of}
use Rattle.link_core.proofs.parts.Parts.fill.Given as goal

abbrev pub invariant-filling : goal.invariant-filling
invariant-filling g l = record {
  well : IsSoundAfter (keeping_arrivals g.gone) l.self;
  playable : CanPlay (keeping_arrivals g.gone) l.last l.self;
  logged : l.self.log.kept ≡ true;
  same : l.self.log.entries ++ rest_of l.last l.self ≡ l.fn.self.log.entries ++ rest_of l.last l.fn.self;
}

abbrev pub decreases-filling : goal.decreases-filling
decreases-filling g l = work l.last l.self

abbrev pub ghost-run : goal.ghost-run
ghost-run g a = keeping_arrivals g.gone
