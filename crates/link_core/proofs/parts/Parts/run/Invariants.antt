use Rattle.std.proofs.Common.{◌≡◌, ◌+◌, ◌≤◌}
use Rattle.link_core.specs.inside.Moves.{HasRoomFor}
use Rattle.link_core.specs.inside.Same.{IsSameLink}
use Rattle.link_core.specs.inside.Sound.{IsSoundAfter}
use Rattle.link_core.specs.inside.Play.{CanPlay, all_arrivals, work}
use Rattle.link_core.proofs.parts.Parts.run.Given as goal

abbrev pub invariant-stepping : goal.invariant-stepping
invariant-stepping g l = record {
  well : IsSoundAfter g.gone l.self;
  playable : CanPlay g.gone l.last l.self;
  link : IsSameLink l.fn.self l.self;
  arrivals : all_arrivals g.gone l.self ≡ all_arrivals g.gone l.fn.self;
  room : HasRoomFor l.left l.self;
  within : l.left ≤ 256;
  less : work l.last l.self + 256 ≤ work l.last l.fn.self + l.left;
}

abbrev pub decreases-stepping : goal.decreases-stepping
decreases-stepping g l = l.left

abbrev pub ghost-reserve_steps : goal.ghost-reserve_steps
ghost-reserve_steps g a = g.gone

abbrev pub ghost-step : goal.ghost-step
ghost-step g a = g.gone
