-- For proofs alone: the parts of a record are inside the bytes.
use Rattle.std.specs.Prelude.{ℕ, ◌≤◌, ◌<◌, List, length}
use Rattle.record_store.specs.declared.cutting.Cut.{Cut}

-- The parts are in order, and a byte follows them.
abbrev pub IsInside : List ℕ → Cut → Type 0
IsInside bytes cut = (cut.request ≤ cut.response) × (cut.response ≤ cut.end) × (cut.end < length bytes)
