-- What a reader of a store's text has read.
use Rattle.std.specs.Prelude.{◌≡◌, ℕ, List, [], ◌++◌, Option, Some, None, Err, length}
use Rattle.record_store.specs.StoreText.{StoreSays, Reaches, store_text}
use Rattle.record_store.specs.declared.header.StoreForm.{StoreForm}
use Rattle.record_store.specs.declared.store_error.StoreError.{StoreError}
use Rattle.record_store.specs.declared.store_reader.StoreReader.{StoreReader}

-- All of the text is kept where its first line wasn't read. Else the text is that of the records, and then what is kept.
abbrev pub HasReadForm : List ℕ → StoreReader → Option StoreForm → Type 0
HasReadForm text reader None = (reader.kept.items ≡ text) × (reader.store ≡ [])
HasReadForm text reader (Some form) =
    Reaches form text reader.store reader.kept.items × (reader.place ≡ length (store_text form reader.store))

-- Without a refusal the text is read so far. With one it is refused so, however it goes on.
abbrev pub HasReadTo : List ℕ → StoreReader → Option StoreError → Type 0
HasReadTo text reader None = HasReadForm text reader reader.form
HasReadTo text reader (Some error) = (more : List ℕ) → StoreSays (text ++ more) (Err error)

-- This text was read.
abbrev pub HasRead : List ℕ → StoreReader → Type 0
HasRead text reader = HasReadTo text reader reader.refused
