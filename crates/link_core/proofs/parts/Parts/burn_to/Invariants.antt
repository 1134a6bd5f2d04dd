use Rattle.std.proofs.Common.{◌≡◌, ◌-◌, ◌≤◌}
use Rattle.link_core.specs.inside.Moves.{HasRoomTo}
use Rattle.link_core.specs.inside.Same.{IsSameLink}
use Rattle.link_core.specs.inside.Sound.{IsSoundAfter}
use Rattle.link_core.proofs.parts.Parts.burn_to.Given as goal

abbrev pub invariant-burning : goal.invariant-burning
invariant-burning g l = record {
  well : IsSoundAfter g.gone l.self;
  link : IsSameLink l.fn.self l.self;
  so_far : l.self.burnt ≤ l.end;
  entered : l.self.arrived ≡ l.fn.self.arrived;
  room : HasRoomTo l.end l.self;
}

abbrev pub decreases-burning : goal.decreases-burning
decreases-burning g l = l.end - l.self.burnt

abbrev pub ghost-burn_some : goal.ghost-burn_some
ghost-burn_some g a = g.gone
