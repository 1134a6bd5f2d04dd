-- The printed text of a schedule is its text.
use Rattle.std.proofs.Common.{◌≡◌, ℕ, ◌+◌, ◌≤◌, ◌<◌, ◌^◌, cond, List, [], ◌∷◌, ◌++◌, length, Some, decimal, refl, ap}
use Rattle.std.proofs.Common.{sym, subst, ◌∙◌, append_assoc, arith}
use Rattle.std.specs.List.{onto_first}
use Rattle.std.proofs.lemmas.Fmt.{digits_decimal}
use Rattle.text_base.specs.Lines.{lines_of}
use Rattle.text_base.proofs.NumbersLemmas.{decimal_of-decimal}
use Rattle.packet_record.specs.Said.{said_of}
use Rattle.packet_record.specs.Printing.{direction_text, row_text, schedule_text}
use Rattle.packet_record.specs.Orders.{AreInOrder, AreWithin, IsSchedule}
use Rattle.packet_record.specs.Schedules.{AreRows, IsScheduleText, said}
use Rattle.packet_record.specs.declared.packet.Direction.{Direction}
use Rattle.packet_record.specs.declared.packet.Direction.TheVariants.{Up, Down}
use Rattle.packet_record.specs.declared.packet.Row.{Row}
use Rattle.packet_record.proofs.SaidLemmas.{own}
use Rattle.packet_record.proofs.SpaceLemmas.{Lacks, lacks-append, digits_lack}
use Rattle.packet_record.proofs.LineLemmas.{said_of_parts}

pub decimal_lacks : (byte n : ℕ) → byte < 48 → n < 2 ^ 64 → Lacks byte (decimal n)
decimal_lacks byte n low fits = digits_lack byte (decimal n) low (digits_decimal own n fits)

pub lines_of-append : (xs ys : List ℕ) → Lacks 10 xs → lines_of (xs ++ 10 ∷ ys) ≡ xs ∷ lines_of ys
lines_of-append [] ys h = refl
lines_of-append (x ∷ xs) ys h =
    ap (λ b. cond b ([] ∷ lines_of (xs ++ 10 ∷ ys)) (onto_first x (lines_of (xs ++ 10 ∷ ys)))) h.0
    ∙ ap (onto_first x) (lines_of-append xs ys h.1)

-- a line without its line feed
abbrev line_text : Row → List ℕ
line_text row = decimal row.timed.moment ++ direction_text row.direction ++ decimal row.timed.packet.size

direction_lacks : (d : Direction) → Lacks 10 (direction_text d)
direction_lacks Up = (refl, (refl, (refl, (refl, tt))))
direction_lacks Down = (refl, (refl, (refl, (refl, (refl, (refl, tt))))))

pub said_of-line : (row : Row) → row.timed.moment ≤ 9999999999 → said_of (line_text row) ≡ Some (said row)
said_of-line row within =
    let most = row.timed.packet.most in
    said_of_parts row.direction (decimal row.timed.moment) (decimal row.timed.packet.size) row.timed.moment
    row.timed.packet.size
    (decimal_of-decimal row.timed.moment (omega arith)) (decimal_of-decimal row.timed.packet.size (omega arith))

line_lacks : (row : Row) → row.timed.moment ≤ 9999999999 → Lacks 10 (line_text row)
line_lacks row within =
    let most = row.timed.packet.most in
    lacks-append 10 (decimal row.timed.moment ++ direction_text row.direction) (decimal row.timed.packet.size)
    (lacks-append 10 (decimal row.timed.moment) (direction_text row.direction)
    (decimal_lacks 10 row.timed.moment (omega arith) (omega arith)) (direction_lacks row.direction))
    (decimal_lacks 10 row.timed.packet.size (omega arith) (omega arith))

lines_of-row : (row : Row) (rest : List ℕ) → row.timed.moment ≤ 9999999999
    → lines_of (row_text row ++ rest) ≡ line_text row ∷ lines_of rest
lines_of-row row rest within = ap lines_of (append_assoc (line_text row) (10 ∷ []) rest)
    ∙ lines_of-append (line_text row) rest (line_lacks row within)

printed_from : (place low : ℕ) (rows : List Row) → AreInOrder place low rows → AreWithin 9999999999 rows
    → place + length rows ≤ 1000001
    → AreRows place low (lines_of (schedule_text rows)) rows
printed_from place low [] order within few = tt
printed_from place low (row ∷ rows) order within few =
    let rest = printed_from (place + 1) row.timed.moment rows order.2 within.1 (omega arith) in
    let moment_within : row.timed.moment ≤ 9999999999 = within.0 in
    subst (λ lines. AreRows place low lines (row ∷ rows)) (sym (lines_of-row row (schedule_text rows) moment_within))
    (said_of-line row moment_within, order.0, omega arith, order.1, rest)

pub printed : (rows : List Row) → IsSchedule rows → IsScheduleText (schedule_text rows) rows
printed rows is = let few = is.few in printed_from 1 0 rows is.order is.within (omega arith)
