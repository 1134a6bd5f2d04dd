-- The states of shells through which packets have passed to the end.
use Rattle.std.specs.Prelude.{◌≡◌, ℕ, List, [], ◌∷◌}
use Rattle.packet_record.specs.declared.packet.Timed.{Timed}
use Rattle.packet_record.specs.declared.item.FlowEnd.TheVariants.{Ended}
use Rattle.shell_state.specs.declared.spec.DirSpec.{DirSpec}
use Rattle.shell_state.specs.States.{State}

-- The states of shells that do `specs`, in passing order. The first was fed `arrived`, each other what was taken from
-- the one before it, and each was taken to its end.
abbrev pub HavePassed : ℕ → List DirSpec → List Timed → List State → Type 0
HavePassed h [] arrived [] = Unit {0}
HavePassed h [] arrived (s ∷ states) = ⊥
HavePassed h (c ∷ specs) arrived [] = ⊥
HavePassed h (c ∷ specs) arrived (s ∷ states) =
    (s.spec ≡ c) × (s.horizon ≡ h) × (s.fed.packets ≡ arrived) × (s.taken.end ≡ Ended)
    × HavePassed h specs s.taken.packets states
