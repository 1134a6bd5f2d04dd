-- The trace that the generator makes of a number.
use Rattle.std.specs.Prelude.{ℕ, zero, suc, ◌+◌, ◌%◌, List, [], ◌∷◌}
use Rattle.packet_record.specs.Draws.{draw_start, next_draw}

-- `n` moments after this one, each 1 to 3 milliseconds after the one before, by one draw
abbrev pub moments_from : ℕ → ℕ → ℕ → List ℕ
moments_from x moment zero = []
moments_from x moment (suc n) =
    (moment + (1 + next_draw x % 3)) ∷ moments_from (next_draw x) (moment + (1 + next_draw x % 3)) n

-- the moments of the trace of a number
abbrev pub made_moments : ℕ → List ℕ
made_moments number = moments_from (draw_start number) 0 100
