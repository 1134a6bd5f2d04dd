-- Which store, or which refusal, the bytes of a client and of a server give. Requests come in their order, each with
-- the first response that isn't interim.
use Rattle.std.specs.Prelude.{◌≡◌, ◌≤◌, ◌<◌, ◌+◌, ℕ, Bool, true, List, [], ◌∷◌, ◌++◌, length, Result, Ok, Err}
use Rattle.http_frame.specs.Messages.{MayStop}
use Rattle.http_frame.specs.Runs.{IsResponseOf, AreRequests, BeginsWithNone, BeginsWithNoResponse}
use Rattle.http_frame.specs.declared.messages.Request.{Request}
use Rattle.http_frame.specs.declared.messages.Response.{Response}
use Rattle.record_store.specs.declared.record.Record.{Record}
use Rattle.record_store.specs.declared.errors.PairError.{PairError}
use Rattle.record_store.specs.declared.errors.PairError.TheVariants as errors

-- The bytes are the response `m`, and then `after`.
pub record IsThen (to_head : Bool) (bytes : List ℕ) (m : Response) (after : List ℕ) : Type 0 where
  pub is : IsResponseOf to_head m
  pub split : bytes ≡ m.bytes ++ after
  pub stops : MayStop is.is.framing true after

-- The bytes are the interim responses `ms`, whose statuses are below 200, and then `rest`.
abbrev pub AreInterim : Bool → List ℕ → List Response → List ℕ → Type 0
AreInterim to_head bytes [] rest = bytes ≡ rest
AreInterim to_head bytes (m ∷ ms) rest = (after : List ℕ) × IsThen to_head bytes m after × (m.head.status < 200)
    × AreInterim to_head after ms rest

-- The bytes are interim responses, and then `rest`.
abbrev pub AfterInterim : Bool → List ℕ → List ℕ → Type 0
AfterInterim to_head bytes rest = (ms : List Response) × AreInterim to_head bytes ms rest

-- The bytes are interim responses, the response `m` with a status of 200 or more, and then `after`.
pub record IsAnswer (to_head : Bool) (bytes : List ℕ) (m : Response) (after : List ℕ) : Type 0 where
  pub before : List ℕ
  pub passed : AfterInterim to_head bytes before
  pub is : IsThen to_head before m after
  pub final : 200 ≤ m.head.status

-- The bytes are the answers to the requests, in their order, and then `rest`. The records have the requests, their
-- responses and the port.
abbrev pub AreAnswers : ℕ → List ℕ → List Request → List Record → List ℕ → Type 0
AreAnswers port bytes [] [] rest = bytes ≡ rest
AreAnswers port bytes [] (r ∷ rs) rest = ⊥
AreAnswers port bytes (m ∷ ms) [] rest = ⊥
AreAnswers port bytes (m ∷ ms) (r ∷ rs) rest =
    (after : List ℕ) × (r.request ≡ m) × (r.port ≡ port) × IsAnswer m.head.head_only bytes r.response after
    × AreAnswers port after ms rs rest

-- The client's bytes are whole requests, of which `m` is request `n`. The requests before it have their answers, and
-- `left` is what follows these in the server's bytes.
pub record Reaches (client server : List ℕ) (port n : ℕ) (m : Request) (left : List ℕ) : Type 0 where
  pub done : List Request
  pub later : List Request
  pub whole : AreRequests client (done ++ m ∷ later) []
  pub records : List Record
  pub answers : AreAnswers port server done records left
  pub place : n ≡ length done + 1

-- Why the client's bytes aren't whole requests: request `n` is refused or cut off.
abbrev pub RefusesRequests : List ℕ → PairError → Type 0
RefusesRequests client (errors.BadRequest n) =
    (ms : List Request) × (rest : List ℕ) × AreRequests client ms rest × BeginsWithNone rest × (0 < length rest)
    × (n ≡ length ms + 1)
RefusesRequests client (errors.BadResponse n) = ⊥
RefusesRequests client (errors.Unanswered n) = ⊥
RefusesRequests client errors.ExtraResponse = ⊥
RefusesRequests client errors.OutOfMemory = Unit {0}

-- The store of both streams, or the first refusal. All requests are read first, and then the answer to each.
abbrev pub Pairs : List ℕ → List ℕ → ℕ → Result (List Record) PairError → Type 0
Pairs client server port (Ok rs) = (ms : List Request) × AreRequests client ms [] × AreAnswers port server ms rs []
Pairs client server port (Err (errors.BadRequest n)) = RefusesRequests client (errors.BadRequest n)
Pairs client server port (Err (errors.BadResponse n)) =
    (m : Request) × (left : List ℕ) × (before : List ℕ) × Reaches client server port n m left
    × AfterInterim m.head.head_only left before × BeginsWithNoResponse m.head.head_only before × (0 < length before)
Pairs client server port (Err (errors.Unanswered n)) =
    (m : Request) × (left : List ℕ) × Reaches client server port n m left × AfterInterim m.head.head_only left []
Pairs client server port (Err errors.ExtraResponse) =
    (ms : List Request) × (rs : List Record) × (rest : List ℕ) × AreRequests client ms []
    × AreAnswers port server ms rs rest × (0 < length rest)
Pairs client server port (Err errors.OutOfMemory) = Unit {0}
