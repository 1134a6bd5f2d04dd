use Rattle.std.proofs.Common.{◌≡◌, ◌+◌, ◌≤◌}
use Rattle.link_core.specs.inside.Moves.{HasRoomFor}
use Rattle.link_core.specs.inside.Same.{IsSameLink}
use Rattle.link_core.specs.inside.Sound.{IsSoundAfter}
use Rattle.link_core.specs.inside.Play.{CanPlay, work}
use Rattle.link_core.proofs.parts.Parts.go_to.Given as goal

abbrev pub invariant-burning : goal.invariant-burning
invariant-burning g l = record {
  well : IsSoundAfter g.gone l.self;
  playable : CanPlay g.gone l._last l.self;
  link : IsSameLink l.fn.self l.self;
  arrived : l.self.arrived ≡ l.fn.self.arrived;
  within : l.left ≤ l.steps;
  room : HasRoomFor l.left l.self;
  less : work l._last l.self + l.steps ≤ work l._last l.fn.self + l.left;
}

abbrev pub decreases-burning : goal.decreases-burning
decreases-burning g l = l.left

abbrev pub ghost-burn_due : goal.ghost-burn_due
ghost-burn_due g a = g.gone

abbrev pub ghost-enter : goal.ghost-enter
ghost-enter g a = g.gone
