-- Which records agree with a request, and which of them is best: the rule by which recorded responses are chosen.
use Rattle.std.specs.Prelude.{◌≡◌, ◌⊎◌, ◌==◌, ◌+◌, ◌<◌, ◌≤◌, ℕ, List, [], ◌∷◌, ◌++◌, length, Option, Some, None}
use Rattle.std.specs.Prelude.{All, if◌then◌else◌}
use Rattle.std.specs.List.{before_first}
use Rattle.http_frame.specs.declared.messages.RequestHead.{RequestHead}
use Rattle.record_store.specs.declared.record.Record.{Record}

-- A request line up to its first `?`, or all of it.
abbrev pub stripped : List ℕ → List ℕ
stripped line = before_first (λ b. b == 63) line

-- How many bytes the longest common front of two lists has.
abbrev pub common : List ℕ → List ℕ → ℕ
common [] b = 0
common (x ∷ a) [] = 0
common (x ∷ a) (y ∷ b) = if x == y then 1 + common a b else 0

-- How much a record's whole request line has in common with that of the request `q`.
abbrev pub score : RequestHead → Record → ℕ
score q r = common r.request.head.line q.line

-- A record of `port` may answer a request that is asked at a port, or at none. A record's port 0 fits any.
abbrev pub FitsPort : ℕ → Option ℕ → Type 0
FitsPort port None = Unit {0}
FitsPort port (Some asked) = (port ≡ 0) ⊎ (port ≡ asked)

-- The record may answer the request: its port fits, and the Host and User-Agent values and the request lines up to
-- their first `?` are equal.
pub record Agrees (q : RequestHead) (asked : Option ℕ) (r : Record) : Type 0 where
  pub port : FitsPort r.port asked
  pub host : r.request.head.host ≡ q.host
  pub agent : r.request.head.agent ≡ q.agent
  pub line : stripped r.request.head.line ≡ stripped q.line

-- The record at `place` is the best: of the agreeing records with the greatest score it is the first.
pub record IsBest (q : RequestHead) (asked : Option ℕ) (rs : List Record) (place : ℕ) : Type 0 where
  pub before : List Record
  pub best : Record
  pub after : List Record
  pub split : rs ≡ before ++ best ∷ after
  pub place_is : place ≡ length before
  pub agrees : Agrees q asked best
  pub greatest : All (λ r. Agrees q asked r → score q r ≤ score q best) rs
  pub first : All (λ r. Agrees q asked r → score q r < score q best) before

-- No record agrees.
abbrev pub NoneAgrees : RequestHead → Option ℕ → List Record → Type 0
NoneAgrees q asked rs = All (λ r. Agrees q asked r → ⊥) rs

-- The best record is at this place, or there is none and no record agrees.
abbrev pub BestCause : RequestHead → Option ℕ → List Record → Option ℕ → Type 0
BestCause q asked rs (Some place) = IsBest q asked rs place
BestCause q asked rs None = NoneAgrees q asked rs
