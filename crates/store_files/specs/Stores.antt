-- How the text of a store's file is judged.
use Rattle.std.specs.Prelude.{◌≡◌, ◌≢◌, ℕ, Bool, false, List, Option, Some, None, Ok, Err}
use Rattle.record_store.specs.Refusals.{number_of, place_named}
use Rattle.record_store.specs.CutText.{SaysAs}
use Rattle.record_store.specs.declared.record.Record.{Record}
use Rattle.record_store.specs.declared.store_error.StoreError.{StoreError}
use Rattle.record_store.specs.declared.store_error.StoreError.TheVariants.{OutOfMemory}
use Rattle.command_ends.specs.Causes.{Text}
use Rattle.command_ends.specs.Readings.{Reading, reading_judged}
use Rattle.command_ends.specs.declared.cause.Refusal.{Refusal}
use Rattle.command_ends.specs.declared.cause.Refusal.TheVariants.{BadInput}

-- The text is that of a store, whose last record may be cut if `may_end_cut`, or it is refused. The refusal names the
-- file, the number of the error, and the place or the record that the error names.
abbrev pub StoreVerdict : Bool → Text → List ℕ → Option Refusal → Type 0
StoreVerdict may_end_cut name text None = (rs : List Record) × SaysAs may_end_cut text (Ok rs)
StoreVerdict may_end_cut name text (Some refusal) =
    (e : StoreError) × (e ≢ OutOfMemory) × SaysAs may_end_cut text (Err e)
    × (refusal ≡ BadInput name (number_of e) (place_named e))

-- The file `name` is read, whose text must be a store. Its last record may be cut if `may_end_cut`.
abbrev pub reading_store_as : {A : Type 0} → Bool → Text → (List ℕ → Reading A) → Reading A
reading_store_as may_end_cut name next = reading_judged (StoreVerdict may_end_cut name) name next

-- The file `name` is read, whose text must be a store.
abbrev pub reading_store : {A : Type 0} → Text → (List ℕ → Reading A) → Reading A
reading_store name next = reading_store_as false name next
