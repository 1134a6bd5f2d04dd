-- The sending ends of all senders.
use Rattle.std.specs.Prelude.{◌+◌, ℕ, List, [], ◌∷◌}
use Rattle.packet_record.specs.declared.packet.Row.{Row}
use Rattle.mark_channel.specs.Boths.{BothKeep, OfBoth}
use Rattle.mark_channel.specs.Ends.{IsSameEnd}
use Rattle.shell_workers.specs.Sending.{IsUnsent}
use Rattle.sender_merge.specs.declared.outlet.Outlet.{Outlet}
use Rattle.sender_merge.specs.inside.Feeding.{SentOrBroken}

-- Nothing was sent in either direction, and both ends have `horizon`.
abbrev pub IsEmpty : ℕ → Outlet → Type 0
IsEmpty horizon o = OfBoth (IsUnsent horizon) o.heads

abbrev pub AllEmpty : ℕ → List Outlet → Type 0
AllEmpty horizon [] = Unit {0}
AllEmpty horizon (o ∷ outlets) = IsEmpty horizon o × AllEmpty horizon outlets

-- both ends keep their horizons and channels
abbrev pub IsSameOutlet : Outlet → Outlet → Type 0
IsSameOutlet old new = BothKeep IsSameEnd old.heads new.heads

abbrev pub AllSameOutlets : List Outlet → List Outlet → Type 0
AllSameOutlets [] [] = Unit {0}
AllSameOutlets [] (p ∷ new) = ⊥
AllSameOutlets (o ∷ old) [] = ⊥
AllSameOutlets (o ∷ old) (p ∷ new) = IsSameOutlet o p × AllSameOutlets old new

-- each sender has sent its rows with their numbers in the merge, or was broken off with no packet sent; `sender` is the
-- number of the first one
abbrev pub AllSentOrBroken : ℕ → ℕ → List (List Row) → List Outlet → Type 0
AllSentOrBroken horizon sender [] [] = Unit {0}
AllSentOrBroken horizon sender [] (o ∷ outlets) = ⊥
AllSentOrBroken horizon sender (rows ∷ schedules) [] = ⊥
AllSentOrBroken horizon sender (rows ∷ schedules) (o ∷ outlets) =
    SentOrBroken horizon sender rows o × AllSentOrBroken horizon (sender + 1) schedules outlets
