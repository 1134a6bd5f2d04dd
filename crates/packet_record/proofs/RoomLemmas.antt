-- How many rows a text of a given length can have.
use Rattle.std.proofs.Common.{◌≡◌, ℕ, ◌+◌, ◌*◌, ◌/◌, ◌≤◌, eqb, true, false, cond, List, [], ◌∷◌, ◌++◌, length, min}
use Rattle.std.proofs.Common.{Some, ap, arith, length-append}
use Rattle.std.specs.List.{onto_first}
use Rattle.text_base.specs.Lines.{lines_of}
use Rattle.text_base.proofs.NumbersLemmas.{decimal_of-Some}
use Rattle.packet_record.specs.Printing.{direction_text}
use Rattle.packet_record.specs.Said.{said_of}
use Rattle.packet_record.specs.Schedules.{AreRows, IsScheduleText, said}
use Rattle.packet_record.specs.declared.line.RowFields.{RowFields}
use Rattle.packet_record.specs.declared.packet.Direction.{Direction}
use Rattle.packet_record.specs.declared.packet.Direction.TheVariants.{Up, Down}
use Rattle.packet_record.specs.declared.packet.Row.{Row}
use Rattle.packet_record.proofs.LineLemmas.{has_parts}
use Rattle.packet_record.proofs.OrdersLemmas.{text_schedule}

long_word : (d : Direction) → 4 ≤ length (direction_text d)
long_word Up = omega arith
long_word Down = omega arith

-- a line that says something has six bytes
least_line : (line : List ℕ) (s : RowFields) → said_of line ≡ Some s → 6 ≤ length line
least_line line s e =
    let p = has_parts line s e in
    let first = (decimal_of-Some p.first s.moment p.moment).some in
    let third = (decimal_of-Some p.third s.size p.size).some in
    let word = long_word s.direction in
    omega (
      arith,
      ap length p.cut,
      length-append (p.first ++ direction_text s.direction) p.third,
      length-append p.first (direction_text s.direction),
      first,
      third,
      word,
    )

-- the bytes of lines, each with a line feed
unfoldable pub room_of : List (List ℕ) → ℕ
room_of [] = 0
room_of (line ∷ lines) = length line + 1 + room_of lines

more_room : (byte : ℕ) (lines : List (List ℕ)) (n : ℕ) → room_of lines ≤ n + 1 → room_of (onto_first byte lines) ≤ n + 2
unfolding room_of
more_room byte [] n le = omega arith
more_room byte (line ∷ lines) n le = omega arith

pub lines_fit : (text : List ℕ) → room_of (lines_of text) ≤ length text + 1
unfolding room_of
lines_fit [] = omega arith
lines_fit (byte ∷ bytes) =
    let rest = lines_fit bytes in
    elim (eqb byte 10) as (λ b. room_of (cond b ([] ∷ lines_of bytes) (onto_first byte (lines_of bytes))) ≤ length
    (byte ∷ bytes) + 1) [
      | true ↦ omega (arith, rest)
      | false ↦ let more = more_room byte (lines_of bytes) (length bytes) rest in omega (arith, more)
    ]

rows_room : (place low : ℕ) (lines : List (List ℕ)) (rows : List Row) → AreRows place low lines rows
    → 7 * length rows ≤ room_of lines
unfolding room_of
rows_room place low [] [] are = omega arith
rows_room place low [] (row ∷ rows) are = absurd are
rows_room place low (line ∷ lines) [] are = omega arith
rows_room place low (line ∷ lines) (row ∷ rows) are =
    let rest = rows_room (place + 1) row.timed.moment lines rows are.4 in
    let long = least_line line (said row) are.0 in
    omega (arith, rest, long)

pub rows_fit : (text : List ℕ) (rows : List Row) (bytes : ℕ) → length text ≤ bytes → IsScheduleText text rows
    → length rows ≤ min (bytes / 7 + 1) 1000000
rows_fit text rows bytes le are =
    let room = rows_room 1 0 (lines_of text) rows are in
    let fits = lines_fit text in
    let few = (text_schedule text rows are).few in
    omega (arith, room, fits, few)
