use Rattle.std.specs.Vec.Iter.{into_iter_items}
use Rattle.sender_merge.specs.inside.Gates.{AllEnds, AreSettled}
use Rattle.sender_merge.specs.inside.Inlets.{AllClosed}
use Rattle.sender_merge.proofs.gates.Gates.settle.Given as goal

abbrev pub invariant-loop-outlet : goal.invariant-loop-outlet
invariant-loop-outlet l =
    AllEnds (into_iter_items l.outlet-iterator) (into_iter_items l.up_inlets) (into_iter_items l.down_inlets)
    × AllClosed (into_iter_items l.up_inlets) × AllClosed (into_iter_items l.down_inlets)
    × (AreSettled (into_iter_items l.outlet-iterator) (into_iter_items l.up_inlets) (into_iter_items l.down_inlets)
    → AreSettled l.fn.self.outlets.items l.fn.self.ups.items l.fn.self.downs.items)
