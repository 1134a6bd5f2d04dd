use Rattle.std.proofs.Common.{◌≡◌, ◌+◌, ◌<◌, ℕ, get_or}
use Rattle.packet_record.specs.declared.packet.Row.{Row}
use Rattle.nest_spec.proofs.places.are_numbered.Given as goal

abbrev pub invariant-loop-i : goal.invariant-loop-i
invariant-loop-i l = (k : ℕ) (d : Row) → k < l.i → (get_or l.rows k d).timed.packet.id ≡ k + 1
