-- For proofs alone: what bytes are one whole request, one whole response, or both.
use Rattle.std.specs.Prelude.{◌≡◌, ◌≤◌, ℕ, Bool, List, Option, Some, None}
use Rattle.http_frame.specs.Runs.{IsRequestOf, IsResponseOf}
use Rattle.http_frame.specs.declared.messages.Request.{Request}
use Rattle.http_frame.specs.declared.messages.Response.{Response}
use Rattle.record_store.specs.Records.{IsRecord}
use Rattle.record_store.specs.declared.record.Record.{Record}
use Rattle.record_store.specs.Exchanges.{IsExchange}

-- The request that all the bytes are, or none.
abbrev pub OneRequest : List ℕ → Option Request → Type 0
OneRequest bytes (Some m) = IsRequestOf m × (m.bytes ≡ bytes)
OneRequest bytes None = (m : Request) → IsRequestOf m → m.bytes ≡ bytes → ⊥

-- The response that all the bytes are, with a status of 200 or more, or none.
abbrev pub OneResponse : Bool → List ℕ → Option Response → Type 0
OneResponse to_head bytes (Some m) = IsResponseOf to_head m × (m.bytes ≡ bytes) × (200 ≤ m.head.status)
OneResponse to_head bytes None = (m : Response) → IsResponseOf to_head m → m.bytes ≡ bytes → 200 ≤ m.head.status → ⊥

-- The record of these bytes with the port `port`, or none.
abbrev pub OneExchange : ℕ → List ℕ → List ℕ → Option Record → Type 0
OneExchange port request response (Some r) = IsRecord r × (r.port ≡ port) × (r.request.bytes ≡ request)
    × (r.response.bytes ≡ response)
OneExchange port request response None = IsExchange request response → ⊥
