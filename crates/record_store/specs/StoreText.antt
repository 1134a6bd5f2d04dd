-- The text of a store, and what a text says: `StoreSays`.
use Rattle.std.specs.Prelude.{◌≡◌, ℕ, ◌+◌, ◌<◌, List, [], ◌∷◌, ◌++◌, All, length, take, codes, Option, Some, None}
use Rattle.std.specs.Prelude.{Result, Ok, Err, if◌then◌else◌}
use Rattle.std.specs.List.{flat_map}
use Rattle.std.specs.Str.{bytes_eq}
use Rattle.record_store.specs.Records.{IsRecord}
use Rattle.record_store.specs.Headers.{header_line, HasPort}
use Rattle.record_store.specs.Exchanges.{IsExchange}
use Rattle.record_store.specs.Cuts.{cut_of, request_part, response_part}
use Rattle.record_store.specs.declared.header.StoreForm.{StoreForm}
use Rattle.record_store.specs.declared.header.StoreForm.TheVariants.{One, Two}
use Rattle.record_store.specs.declared.record.Record.{Record}
use Rattle.record_store.specs.declared.cutting.Cut.{Cut}
use Rattle.record_store.specs.declared.store_error.StoreError.{StoreError}
use Rattle.record_store.specs.declared.store_error.StoreError.TheVariants as errors

-- The first line of a form: `MMSTORE 1` or `MMSTORE 2`, with its line feed.
abbrev pub magic : StoreForm → List ℕ
magic One = codes "MMSTORE 1" ++ 10 ∷ []
magic Two = codes "MMSTORE 2" ++ 10 ∷ []

-- The text of a record: the header line with its line feed, the request's bytes, the response's bytes, and a line feed.
abbrev pub record_text : StoreForm → Record → List ℕ
record_text form r =
    header_line form r.port (length r.request.bytes) (length r.response.bytes)
    ++ 10 ∷ (r.request.bytes ++ (r.response.bytes ++ 10 ∷ []))

-- The texts of records, one after the other.
abbrev pub records_text : StoreForm → List Record → List ℕ
records_text form rs = flat_map (record_text form) rs

-- The text of a store.
abbrev pub store_text : StoreForm → List Record → List ℕ
store_text form rs = magic form ++ records_text form rs

-- A record that a text of this form may have.
abbrev pub IsRecordIn : StoreForm → Record → Type 0
IsRecordIn form r = IsRecord r × HasPort form r.port

-- The form of a text, by its first 10 bytes.
abbrev pub form_of : List ℕ → Option StoreForm
form_of text = if bytes_eq (take 10 text) (magic Two) then Some Two
    else (if bytes_eq (take 10 text) (magic One) then Some One else None)

-- The text is that of the records `rs`, and then `rest`.
pub record Reaches (form : StoreForm) (text : List ℕ) (rs : List Record) (rest : List ℕ) : Type 0 where
  pub split : text ≡ store_text form rs ++ rest
  pub records : All (IsRecordIn form) rs

-- What a text says: its records, or the refusal of the first record that can't be read.
pub data StoreSays (text : List ℕ) (result : Result (List Record) StoreError) : Type 0 where
  -- The text is that of the records.
  whole : (form : StoreForm) (rs : List Record) → text ≡ store_text form rs → All (IsRecordIn form) rs → result ≡ Ok rs
      → StoreSays text result
  -- The text doesn't begin as either form does.
  no_form : form_of text ≡ None → result ≡ Err errors.BadMagic → StoreSays text result
  -- After the records `rs` bytes are left that can't be cut into the parts of a record.
  no_parts : (form : StoreForm) (rs : List Record) (rest : List ℕ) (e : StoreError) → Reaches form text rs rest
      → 0 < length rest
      → cut_of form (length (store_text form rs)) rest ≡ Err e → result ≡ Err e → StoreSays text result
  -- After the records `rs` there are the parts of a record, but they aren't a request and a response to it.
  no_exchange : (form : StoreForm) (rs : List Record) (rest : List ℕ) (cut : Cut) → Reaches form text rs rest
      → cut_of form (length (store_text form rs)) rest ≡ Ok cut
      → (IsExchange (request_part cut rest) (response_part cut rest) → ⊥)
      → result ≡ Err (errors.BadMessage (length rs + 1)) → StoreSays text result
  -- An allocation failed.
  no_memory : result ≡ Err errors.OutOfMemory → StoreSays text result
