-- The last moment of a load.
use Rattle.std.proofs.Common.{◌≡◌, ℕ, zero, suc, ◌+◌, ◌-◌, ◌*◌, ◌%◌, ◌≤◌, List, [], ◌∷◌, length, map, slice_get, ap}
use Rattle.std.proofs.Common.{arith}
use Rattle.packet_record.specs.Draws.{draw_start, next_draw}
use Rattle.packet_record.specs.Loads.{drawn_direction, load_from, load_of}
use Rattle.packet_record.specs.Said.{fields}
use Rattle.packet_record.specs.Schedules.{said}
use Rattle.packet_record.specs.declared.line.RowFields.{RowFields}
use Rattle.packet_record.specs.declared.packet.Row.{Row}
use Rattle.command_report.specs.Made.{last_moment, moment_at}

row_within : (x m n k : ℕ) (rows : List Row) → map said rows ≡ load_from x m n
    → moment_at (slice_get rows k) ≤ m + 3 * n
row_within x m n zero [] e = omega arith
row_within x m n (suc k) [] e = omega arith
row_within x m zero k (r ∷ rows) e = cc
row_within x m (suc n) zero (r ∷ rows) e =
    let first : said r ≡ fields (m + next_draw x % 4) (drawn_direction (next_draw (next_draw x)))
    (40 + next_draw (next_draw (next_draw x)) % 1461) = cc in
    let moment : r.timed.moment ≡ m + next_draw x % 4 = ap (λ (s : RowFields). s.moment) first in
    omega arith
row_within x m (suc n) (suc k) (r ∷ rows) e =
    let rest : map said rows ≡ load_from (next_draw (next_draw (next_draw x))) (m + next_draw x % 4) n = cc in
    let ih = row_within (next_draw (next_draw (next_draw x))) (m + next_draw x % 4) n k rows rest in
    omega arith

pub last_within : (number packets : ℕ) (rows : List Row) → map said rows ≡ load_of number packets → packets ≤ 1000000
    → last_moment rows ≤ 3000000
last_within number packets rows e few =
    let last = row_within (draw_start number) 0 packets (length rows - 1) rows e in
    omega arith
