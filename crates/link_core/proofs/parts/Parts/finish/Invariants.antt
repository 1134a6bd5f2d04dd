use Rattle.std.proofs.Common.{◌≡◌}
use Rattle.link_core.specs.inside.Same.{IsSameLink}
use Rattle.link_core.specs.inside.Sound.{IsSoundAfter}
use Rattle.link_core.specs.inside.Play.{CanPlay, all_arrivals, work}
use Rattle.link_core.proofs.parts.Parts.finish.Given as goal

abbrev pub invariant-finishing : goal.invariant-finishing
invariant-finishing g l = record {
  well : IsSoundAfter g.gone l.self;
  playable : CanPlay g.gone l.last l.self;
  link : IsSameLink l.fn.self l.self;
  arrivals : all_arrivals g.gone l.self ≡ all_arrivals g.gone l.fn.self;
}

abbrev pub decreases-finishing : goal.decreases-finishing
decreases-finishing g l = work l.last l.self

abbrev pub ghost-run : goal.ghost-run
ghost-run g a = g.gone
