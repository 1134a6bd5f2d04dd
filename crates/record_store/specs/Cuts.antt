-- Where the parts of a record are in the text of a store.
use Rattle.std.specs.Prelude.{ℕ, ◌+◌, ◌-◌, ◌==◌, List, length, take, drop, Option, Some, None, Result, Ok}
use Rattle.std.specs.Prelude.{Err, nat_lt, position, slice_index, if◌then◌else◌}
use Rattle.record_store.specs.Headers.{header_of}
use Rattle.record_store.specs.declared.header.StoreForm.{StoreForm}
use Rattle.record_store.specs.declared.header.Header.{Header}
use Rattle.record_store.specs.declared.cutting.Cut.{Cut}
use Rattle.record_store.specs.declared.store_error.StoreError.{StoreError}
use Rattle.record_store.specs.declared.store_error.StoreError.TheVariants as errors

-- The bytes of the request. `bytes` begin with the record.
abbrev pub request_part : Cut → List ℕ → List ℕ
request_part cut bytes = take (cut.response - cut.request) (drop cut.request bytes)

-- The bytes of the response.
abbrev pub response_part : Cut → List ℕ → List ℕ
response_part cut bytes = take (cut.end - cut.response) (drop cut.response bytes)

-- The parts, where they are all there and a line feed follows them. `bytes` are the text from `place` on.
abbrev pub cut_by_end : ℕ → List ℕ → Cut → Result Cut StoreError
cut_by_end place bytes cut =
    if nat_lt cut.end (length bytes)
    then (if slice_index bytes cut.end == 10 then Ok cut else Err (errors.BadHeader (place + cut.end)))
    else Err (errors.Truncated place)

-- The parts of the record whose header is `header`. The request begins at `start`, counted from the record's place.
abbrev pub cut_at_header : ℕ → List ℕ → ℕ → Header → Result Cut StoreError
cut_at_header place bytes start header =
    cut_by_end place bytes (record {
      port = header.port;
      request = start;
      response = start + header.request;
      end = start + header.request + header.response;
    })

-- The parts of the record, where its header was read.
abbrev pub cut_by_header : ℕ → List ℕ → ℕ → Result Header StoreError → Result Cut StoreError
cut_by_header place bytes start (Ok header) = cut_at_header place bytes start header
cut_by_header place bytes start (Err e) = Err e

-- The parts of the record whose header line ends at `end`, if it ends.
abbrev pub cut_by_line : StoreForm → ℕ → List ℕ → Option ℕ → Result Cut StoreError
cut_by_line form place bytes None = Err (errors.Truncated place)
cut_by_line form place bytes (Some end) = cut_by_header place bytes (end + 1) (header_of form place (take end bytes))

-- The parts of the record at `place`, from which on the text is `bytes`, or the first refusal there.
abbrev pub cut_of : StoreForm → ℕ → List ℕ → Result Cut StoreError
cut_of form place bytes = cut_by_line form place bytes (position (λ byte. byte == 10) bytes)
