use Rattle.std.proofs.Common.{◌≡◌, ◌<◌, ℕ, Some, get_or, length}
use Rattle.packet_record.specs.declared.packet.Row.{Row}
use Rattle.nest_spec.specs.inside.Index.{place_in}
use Rattle.nest_spec.proofs.places.lists_of.Given as goal

abbrev pub invariant-loop-i : goal.invariant-loop-i
invariant-loop-i l = (length l.lists.items ≡ 16)
    × ((k : ℕ) (d : Row) → k < l.i → place_in l.lists.items (get_or l.rows k d).timed.packet.id ≡ Some k)
