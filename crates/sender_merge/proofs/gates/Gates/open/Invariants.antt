use Rattle.std.proofs.Common.{◌≡◌, length}
use Rattle.sender_merge.specs.inside.Gates.{AllFresh}
use Rattle.sender_merge.proofs.gates.Gates.open.Given as goal

abbrev pub invariant-loop : goal.invariant-loop
invariant-loop l = AllFresh l.horizon l.gates.outlets.items l.gates.ups.items l.gates.downs.items
    × (length l.gates.outlets.items ≡ l.counter)
