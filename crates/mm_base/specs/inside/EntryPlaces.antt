-- The place of a file in a list of entries.
use Rattle.std.specs.Prelude.{◌≡◌, ◌≢◌, ℕ, zero, suc, List, [], ◌∷◌}
use Rattle.mm_base.specs.Entries.{Entries}

-- the entry at this place is the first of this name
abbrev pub IsFirstAt : List ℕ → Entries → ℕ → Type 0
IsFirstAt name [] i = ⊥
IsFirstAt name (e ∷ es) zero = e.0 ≡ name
IsFirstAt name (e ∷ es) (suc i) = (e.0 ≢ name) × IsFirstAt name es i

-- no entry has this name
abbrev pub AllApart : List ℕ → Entries → Type 0
AllApart name [] = Unit {0}
AllApart name (e ∷ es) = (e.0 ≢ name) × AllApart name es
