-- A text cut at its first line feed.
use Rattle.std.proofs.Common.{◌≡◌, ℕ, ◌==◌, true, false, cond, List, [], ◌∷◌}
use Rattle.std.proofs.Common.{refl, ap}
use Rattle.std.specs.List.{onto_first}
use Rattle.shell_log.specs.Words.{parts_of}

-- a text has at least one part
pub some_part : (xs : List ℕ) → (w : List ℕ) × (ws : List (List ℕ)) × (parts_of xs ≡ w ∷ ws)
some_part [] = ([], [], refl)
some_part (x ∷ xs) =
    elim (x == 10) as (λ b. (w : List ℕ) × (ws : List (List ℕ))
    × (cond b ([] ∷ parts_of xs) (onto_first x (parts_of xs)) ≡ w ∷ ws)) [
      | true ↦ ([], parts_of xs, refl)
      | false ↦ let rest = some_part xs in (x ∷ rest.0, rest.1, ap (onto_first x) rest.2)
    ]
