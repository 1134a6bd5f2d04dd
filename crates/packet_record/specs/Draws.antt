-- The generator of test loads: a row of draws from a number.
use Rattle.std.specs.Prelude.{ℕ, ◌+◌, ◌*◌, ◌%◌}

-- where the draws of a number start
abbrev pub draw_start : ℕ → ℕ
draw_start number = number % 65536

-- the draw after this one
abbrev pub next_draw : ℕ → ℕ
next_draw x = (75 * x + 74) % 65537
