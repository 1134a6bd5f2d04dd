-- For proofs alone: all requests of a stream.
use Rattle.std.specs.Prelude.{List, ℕ}
use Rattle.http_frame.specs.declared.messages.Request.{Request}
use Rattle.http_frame.specs.Runs.{AreRequests, BeginsWithNone}

-- The bytes are those of the requests, and then `rest`, which begins with no request.
abbrev pub Messages : List ℕ → List Request → List ℕ → Type 0
Messages bytes ms rest = AreRequests bytes ms rest × BeginsWithNone rest
