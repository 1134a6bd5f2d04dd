use Rattle.std.proofs.Common.{◌≡◌, ◌++◌, length}
use Rattle.std.specs.Vec.Iter.{into_iter_items}
use Rattle.nest_spec.specs.Walk.{in_nest_order}
use Rattle.nest_spec.proofs.naming.in_nest_order.Given as goal

abbrev pub invariant-loop-down : goal.invariant-loop-down
invariant-loop-down g l = record {
  long : length l.ups.items ≡ length (into_iter_items l.down-iterator);
  same : l.list.items ++ in_nest_order l.ups.items (into_iter_items l.down-iterator) ≡ in_nest_order l.fn.ups.items
      l.fn.downs.items;
}
