use Rattle.std.proofs.Common.{◌≡◌, ◌++◌}
use Rattle.std.specs.Vec.Iter.{into_iter_items}
use Rattle.nest_spec.specs.Nests.{AllFit, directions_of}
use Rattle.nest_core.specs.Worlds.{new_stations}
use Rattle.nest_core.specs.inside.Standing.{StandAnew}
use Rattle.nest_core.proofs.world.new_stations.Given as goal

abbrev pub invariant-loop-spec : goal.invariant-loop-spec
invariant-loop-spec l = record {
  can : (goal.iterator-loop-spec).can_next l.spec-iterator;
  ends : (goal.iterator-loop-spec).is_finite l.spec-iterator;
  fit : AllFit l.horizon (into_iter_items l.spec-iterator);
  made : l.stations.items ++ new_stations l.horizon l.capacity (into_iter_items l.spec-iterator)
      ≡ new_stations l.horizon
      l.capacity (directions_of l.fn.direction l.nest);
  stand : StandAnew l.horizon (into_iter_items l.spec-iterator)
      → StandAnew l.horizon (directions_of l.fn.direction l.nest);
}
