use Rattle.std.proofs.Common.{◌≡◌, ◌≤◌, ◌++◌, length}
use Rattle.record_store.specs.StoreText.{records_text}
use Rattle.record_store.specs.declared.header.StoreForm.TheVariants as forms
use Rattle.record_store.proofs.pieces.fill.Given as goal

abbrev pub invariant-records : goal.invariant-records
invariant-records l = record {
  same : l.fn.piece ++ records_text forms.Two l.fn.records ≡ l.piece ++ records_text forms.Two l.left;
  fewer : length l.left ≤ length l.fn.records;
}

abbrev pub decreases-records : goal.decreases-records
decreases-records l = length l.left
