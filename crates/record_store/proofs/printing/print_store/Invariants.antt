use Rattle.std.proofs.Common.{◌≡◌, take}
use Rattle.record_store.specs.declared.header.StoreForm.TheVariants.{Two}
use Rattle.record_store.specs.StoreText.{store_text}
use Rattle.record_store.proofs.printing.print_store.Given as goal

abbrev pub invariant-loop-record : goal.invariant-loop-record
invariant-loop-record l = l.out ≡ store_text Two (take l.record-index l.store)
