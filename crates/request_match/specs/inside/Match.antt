-- For proofs alone: what was found while a store is gone through.
use Rattle.std.specs.Prelude.{◌≡◌, ℕ, List, nat_lt, Option, Some, None}
use Rattle.std.specs.Prelude.{if◌then◌else◌}
use Rattle.http_frame.specs.declared.messages.RequestHead.{RequestHead}
use Rattle.record_store.specs.declared.record.Record.{Record}
use Rattle.request_match.specs.Match.{score, IsBest, NoneAgrees}

-- What was found, or `place` where its score is greater.
abbrev pub better_of : Option (ℕ × ℕ) → ℕ → ℕ → Option (ℕ × ℕ)
better_of None place most = Some (place, most)
better_of (Some f) place most = if nat_lt f.1 most then Some (place, most) else Some (f.0, f.1)

-- The best of the records so far, with its score.
abbrev pub BestSoFar : RequestHead → Option ℕ → List Record → Option (ℕ × ℕ) → Type 0
BestSoFar q asked rs None = NoneAgrees q asked rs
BestSoFar q asked rs (Some f) = (b : IsBest q asked rs f.0) × (f.1 ≡ score q b.best)
