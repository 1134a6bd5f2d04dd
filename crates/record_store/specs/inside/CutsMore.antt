-- For proofs alone: a record that is cut off, of which more may come.
use Rattle.std.specs.Prelude.{Bool, true, false}
use Rattle.record_store.specs.declared.store_error.StoreError.{StoreError}
use Rattle.record_store.specs.declared.store_error.StoreError.TheVariants as errors

-- The refusal says that the text ends within a record.
abbrev pub is_cut_off : StoreError → Bool
is_cut_off errors.BadMagic = false
is_cut_off (errors.BadHeader place) = false
is_cut_off (errors.Truncated place) = true
is_cut_off (errors.BadMessage number) = false
is_cut_off (errors.BadScheme place) = false
is_cut_off errors.OutOfMemory = false
