-- The best record's answer.
use Rattle.std.proofs.Common.{◌≡◌, ◌∙◌, ℕ, List, ◌∷◌, ◌++◌, get_or, Option, ap}
use Rattle.std.proofs.Common.{inl}
use Rattle.std.proofs.Math.Seq.{get_or-append_seam}
use Rattle.http_frame.specs.declared.messages.RequestHead.{RequestHead}
use Rattle.record_store.specs.declared.record.Record.{Record}
use Rattle.request_match.specs.Match.{IsBest}
use Rattle.replay_server.specs.Answers.{Answer, IsAnswer, recorded}

-- the record at the place of the best is the best
pub best_there : (q : RequestHead) (site : Option ℕ) (store : List Record) (place : ℕ) (b : IsBest q site store place)
    (r other : Record)
    → r ≡ get_or store place other → r ≡ b.best
best_there q site store place b r other is =
    is ∙ ap (λ rs. get_or rs place other) b.split ∙ ap (λ n. get_or (b.before ++ b.best ∷ b.after) n other) b.place_is
    ∙ get_or-append_seam b.before b.best b.after other

pub recorded_answer : (q : RequestHead) (site : Option ℕ) (store : List Record) (place : ℕ)
    (b : IsBest q site store place) (r other : Record)
    (answer : Answer) → r ≡ get_or store place other → answer ≡ recorded q r → IsAnswer store site q answer
recorded_answer q site store place b r other answer is says =
    inl (place, b, says ∙ ap (recorded q) (best_there q site store place b r other is))
