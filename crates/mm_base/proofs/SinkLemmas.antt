-- What a sink holds after one piece more.
use Rattle.std.proofs.Common.{◌≡◌, ℕ, ◌++◌, List, Option, Some, None, append_assoc, ap, ◌∙◌}
use Rattle.mm_base.specs.Sink.{sending}

pub sent_more : (told before after : Option (List ℕ)) (a b : List ℕ)
    → before ≡ sending a told → after ≡ sending b before → after ≡ sending (a ++ b) told
sent_more None before after a b e f = f ∙ ap (sending b) e
sent_more (Some bytes) before after a b e f = f ∙ ap (sending b) e ∙ ap Some (append_assoc bytes a b)
