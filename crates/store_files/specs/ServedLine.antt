-- The line of a serving that is done.
use Rattle.std.specs.Prelude.{ℕ, List, [], ◌∷◌, ◌++◌, codes, decimal}
use Rattle.replay_server.specs.declared.ends.Served.{Served}

-- words and a number
abbrev pub counted : List ℕ → ℕ → List ℕ
counted words count = words ++ decimal count

-- `closed C bad B broken K full F`
abbrev pub served_line : Served → List ℕ
served_line n =
    counted (codes "closed ") n.closed
    ++ (counted (codes " bad ") n.bad ++ (counted (codes " broken ") n.broken
    ++ (counted (codes " full ") n.full ++ 10 ∷ [])))
