use Rattle.std.proofs.Common.{◌≡◌, ◌++◌}
use Rattle.std.specs.Vec.Iter.{into_iter_items}
use Rattle.nest_spec.specs.Nests.{AllFit, directions_of}
use Rattle.live_relay.specs.inside.Meeting.{AreNew}
use Rattle.live_relay.specs.views.Meeting.{specs_of}
use Rattle.live_relay.proofs.line.new_states.Given as goal

abbrev pub invariant-loop-spec : goal.invariant-loop-spec
invariant-loop-spec l = record {
  fit : AllFit l.horizon (into_iter_items l.spec-iterator);
  new : AreNew l.horizon l.states.items;
  specs : specs_of l.states.items ++ into_iter_items l.spec-iterator ≡ directions_of l.fn.direction l.nest;
}
