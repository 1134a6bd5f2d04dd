-- The text that the pieces of a store still have to give.
use Rattle.std.specs.Prelude.{ℕ, Bool, true, false, List}
use Rattle.record_store.specs.StoreText.{store_text, records_text}
use Rattle.record_store.specs.declared.header.StoreForm.TheVariants.{Two}
use Rattle.record_store.specs.declared.record.Record.{Record}

-- The text of the records in form 2, without its first line where that was given (`true`).
abbrev pub text_left : Bool → List Record → List ℕ
text_left true rs = records_text Two rs
text_left false rs = store_text Two rs
