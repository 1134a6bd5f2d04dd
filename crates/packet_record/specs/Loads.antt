-- The schedule that the generator makes of a number.
use Rattle.std.specs.Prelude.{ℕ, suc, zero, ◌+◌, ◌%◌, nat_lt, List, [], ◌∷◌, if◌then◌else◌}
use Rattle.packet_record.specs.Draws.{draw_start, next_draw}
use Rattle.packet_record.specs.Said.{fields}
use Rattle.packet_record.specs.declared.line.RowFields.{RowFields}
use Rattle.packet_record.specs.declared.packet.Direction.{Direction}
use Rattle.packet_record.specs.declared.packet.Direction.TheVariants.{Up, Down}

-- two of four draws go up
abbrev pub drawn_direction : ℕ → Direction
drawn_direction b = if nat_lt (b % 4) 2 then Up else Down

-- What a number of rows say: each takes three draws after x, which are for the milliseconds since the row before, the
-- direction and the size.
abbrev pub load_from : ℕ → ℕ → ℕ → List RowFields
load_from x moment zero = []
load_from x moment (suc n) =
    fields (moment + next_draw x % 4) (drawn_direction (next_draw (next_draw x)))
    (40 + next_draw (next_draw (next_draw x)) % 1461)
    ∷ load_from (next_draw (next_draw (next_draw x))) (moment + next_draw x % 4) n

-- what the rows of a number's load say
abbrev pub load_of : ℕ → ℕ → List RowFields
load_of number packets = load_from (draw_start number) 0 packets
