-- For proofs alone: what is known of a record before its whole line is compared.
use Rattle.std.specs.Prelude.{◌≡◌, ◌≤◌, ℕ, Option, Some, None}
use Rattle.http_frame.specs.declared.messages.RequestHead.{RequestHead}
use Rattle.record_store.specs.declared.record.Record.{Record}
use Rattle.request_match.specs.Match.{FitsPort}

-- The record agrees in all but its line.
pub record FitsFields (q : RequestHead) (asked : Option ℕ) (r : Record) : Type 0 where
  pub port : FitsPort r.port asked
  pub host : r.request.head.host ≡ q.host
  pub agent : r.request.head.agent ≡ q.agent

-- The score is at most that of the record that was found, if one was.
abbrev pub IsAtMost : Option (ℕ × ℕ) → ℕ → Type 0
IsAtMost None score = ⊥
IsAtMost (Some f) score = score ≤ f.1
