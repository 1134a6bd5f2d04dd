-- Exchanges: a whole request and the whole response to it.
use Rattle.std.specs.Prelude.{◌≡◌, ℕ, List}
use Rattle.record_store.specs.Records.{IsRecord}
use Rattle.record_store.specs.declared.record.Record.{Record}

-- The bytes are one whole request, and one whole response to it with a status of 200 or more.
abbrev pub IsExchange : List ℕ → List ℕ → Type 0
IsExchange request response = (r : Record) × IsRecord r × (r.request.bytes ≡ request) × (r.response.bytes ≡ response)
