-- What a text says whose end may cut its last record: `CutSays`.
use Rattle.std.specs.Prelude.{◌≡◌, ◌≢◌, ℕ, Bool, true, false, List, take, Result, Ok, Err}
use Rattle.record_store.specs.StoreText.{StoreSays}
use Rattle.record_store.specs.declared.record.Record.{Record}
use Rattle.record_store.specs.declared.store_error.StoreError.{StoreError}
use Rattle.record_store.specs.declared.store_error.StoreError.TheVariants as errors

-- What a text says if a last record that its end cuts is left out.
pub data CutSays (text : List ℕ) (result : Result (List Record) StoreError) : Type 0 where
  -- No record is cut.
  uncut : StoreSays text result → ((place : ℕ) → result ≢ Err (errors.Truncated place)) → CutSays text result
  -- The text ends within the record at `place`, and the text before that record has the records `rs`.
  cut : (place : ℕ) (rs : List Record) → StoreSays text (Err (errors.Truncated place))
      → StoreSays (take place text) (Ok rs) → result ≡ Ok rs → CutSays text result

-- What a text says, whose last record may be cut if `cut`.
abbrev pub SaysAs : Bool → List ℕ → Result (List Record) StoreError → Type 0
SaysAs false text result = StoreSays text result
SaysAs true text result = CutSays text result
