use Rattle.std.proofs.Common.{◌≡◌, ◌≤◌, ◌+◌, ◌-◌, ℕ, List, length, drop}
use Rattle.record_store.specs.StoreText.{Reaches, store_text}
use Rattle.record_store.proofs.record_reading.read_on.Given as goal

abbrev pub invariant-records : goal.invariant-records
invariant-records l = record {
  inside : l.at ≤ length l.bytes;
  reached : (text : List ℕ) → Reaches l.form text l.fn.store l.bytes
      → l.place ≡ length (store_text l.form l.fn.store)
      → Reaches l.form text l.store (drop l.at l.bytes) × (l.place + l.at ≡ length (store_text l.form l.store));
}

abbrev pub decreases-records : goal.decreases-records
decreases-records l = length l.bytes - l.at
