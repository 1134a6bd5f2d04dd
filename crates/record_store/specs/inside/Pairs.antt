-- For proofs alone: the answer to one request in a server's bytes.
use Rattle.std.specs.Prelude.{◌≡◌, ◌≤◌, ◌<◌, ℕ, Bool, List, [], length, drop, Result, Ok, Err}
use Rattle.http_frame.specs.Runs.{BeginsWithNoResponse}
use Rattle.record_store.specs.declared.server.FoundResponse.{FoundResponse}
use Rattle.record_store.specs.declared.errors.PairError.{PairError}
use Rattle.record_store.specs.declared.errors.PairError.TheVariants as errors
use Rattle.record_store.specs.Pairs.{AfterInterim, IsAnswer}

-- What each result says of the server's bytes, from the answer to request `n` on.
abbrev pub AnswerSays : ℕ → Bool → List ℕ → Result FoundResponse PairError → Type 0
AnswerSays n to_head bytes (Ok a) = (a.end ≤ length bytes) × IsAnswer to_head bytes a.response (drop a.end bytes)
AnswerSays n to_head bytes (Err (errors.BadRequest k)) = ⊥
AnswerSays n to_head bytes (Err (errors.BadResponse k)) =
    (k ≡ n) × (before : List ℕ) × AfterInterim to_head bytes before × BeginsWithNoResponse to_head before
    × (0 < length before)
AnswerSays n to_head bytes (Err (errors.Unanswered k)) = (k ≡ n) × AfterInterim to_head bytes []
AnswerSays n to_head bytes (Err errors.ExtraResponse) = ⊥
AnswerSays n to_head bytes (Err errors.OutOfMemory) = Unit {0}
