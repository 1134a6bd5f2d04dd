-- The rows of a schedule.
use Rattle.std.specs.Prelude.{◌≡◌, ◌<◌, ℕ, ◌≤◌, Bool, true, false, ◌&&◌, List, [], ◌∷◌, nat_le, filter, map}
use Rattle.std.specs.Prelude.{length, get_or}
use Rattle.packet_record.specs.declared.packet.Timed.{Timed}
use Rattle.packet_record.specs.declared.packet.Row.{Row}
use Rattle.packet_record.specs.declared.packet.Direction.{Direction}
use Rattle.packet_record.specs.declared.packet.Direction.TheVariants.{Up, Down}

abbrev pub goes : Direction → Direction → Bool
goes Up Up = true
goes Up Down = false
goes Down Up = false
goes Down Down = true

-- the packets of a direction up to the horizon
abbrev pub entering : Direction → ℕ → List Row → List Timed
entering d horizon rows =
    map (λ (r : Row). r.timed) (filter (λ (r : Row). goes d r.direction && nat_le r.timed.moment horizon) rows)

-- the moments are at least this one, and never fall
abbrev pub Rises : ℕ → List Row → Type 0
Rises bound [] = Unit {0}
Rises bound (r ∷ rs) = (bound ≤ r.timed.moment) × Rises r.timed.moment rs

-- no two rows have one number
abbrev pub AreApart : List Row → Type 0
AreApart rows = (i j : ℕ) (d : Row) → i < length rows → j < length rows
    → (get_or rows i d).timed.packet.id ≡ (get_or rows j d).timed.packet.id → i ≡ j
