-- The rows of a load are those of a schedule.
use Rattle.std.proofs.Common.{◌≡◌, ℕ, suc, ◌+◌, ◌-◌, ◌*◌, ◌%◌, ◌≤◌, ◌<◌, List, [], ◌∷◌, ◌++◌, length, map, refl, ap}
use Rattle.std.proofs.Common.{sym, ◌∙◌, append_assoc, arith}
use Rattle.std.proofs.lemmas.List.{map-append}
use Rattle.packet_record.specs.Draws.{next_draw}
use Rattle.packet_record.specs.Loads.{load_from, drawn_direction}
use Rattle.packet_record.specs.Orders.{AreInOrder, AreWithin, IsSchedule}
use Rattle.packet_record.specs.Said.{fields}
use Rattle.packet_record.specs.Schedules.{said}
use Rattle.packet_record.specs.declared.packet.Row.{Row}

-- rows in order, the last at this moment
abbrev pub IsPartFrom : ℕ → ℕ → ℕ → List Row → Type 0
IsPartFrom place low moment [] = low ≡ moment
IsPartFrom place low moment (row ∷ rows) = (row.timed.packet.id ≡ place) × (low ≤ row.timed.moment)
    × IsPartFrom (place + 1) row.timed.moment moment rows

abbrev pub IsPart : ℕ → List Row → Type 0
IsPart moment rows = IsPartFrom 1 0 moment rows

part-push : (place low moment : ℕ) (rows : List Row) (row : Row) → IsPartFrom place low moment rows
    → row.timed.packet.id ≡ place + length rows → moment ≤ row.timed.moment
    → IsPartFrom place low row.timed.moment (rows ++ row ∷ [])
part-push place low moment [] row part id le = (omega (arith, id), omega (arith, part), refl)
part-push place low moment (r ∷ rows) row part id le =
    (part.0, part.1, part-push (place + 1) r.timed.moment moment rows row part.2 (omega (arith, id)) le)

pub part_more : (moment : ℕ) (rows : List Row) (row : Row) → IsPart moment rows
    → row.timed.packet.id ≡ length rows + 1 → moment ≤ row.timed.moment → IsPart row.timed.moment (rows ++ row ∷ [])
part_more moment rows row part id le = part-push 1 0 moment rows row part (omega (arith, id)) le

part_order : (place low moment : ℕ) (rows : List Row) → IsPartFrom place low moment rows → AreInOrder place low rows
part_order place low moment [] part = tt
part_order place low moment (row ∷ rows) part =
    (part.0, part.1, part_order (place + 1) row.timed.moment moment rows part.2)

last_within : (place low moment : ℕ) (rows : List Row) → IsPartFrom place low moment rows → low ≤ moment
last_within place low moment [] part = omega (arith, part)
last_within place low moment (row ∷ rows) part =
    let rest = last_within (place + 1) row.timed.moment moment rows part.2 in
    let here = part.1 in
    omega arith

part_within : (place low moment most : ℕ) (rows : List Row) → moment ≤ most → IsPartFrom place low moment rows
    → AreWithin most rows
part_within place low moment most [] le part = tt
part_within place low moment most (row ∷ rows) le part =
    let last = last_within (place + 1) row.timed.moment moment rows part.2 in
    (omega arith, part_within (place + 1) row.timed.moment moment most rows le part.2)

pub load_schedule : (moment count : ℕ) (rows : List Row) → IsPart moment rows → length rows ≡ count → count ≤ 1000000
    → moment ≤ 3 * count → IsSchedule rows
load_schedule moment count rows part e few low = record {
  few = omega arith;
  order = part_order 1 0 moment rows part;
  within = part_within 1 0 moment 9999999999 rows (omega arith) part;
}

-- one row more
pub whole_more : (x moment packets before : ℕ) (rows : List Row) (row : Row) (all : List _) → before < packets
    → map said rows ++ load_from x moment (packets - before) ≡ all
    → said row ≡ fields (moment + next_draw x % 4) (drawn_direction (next_draw (next_draw x)))
    (40 + next_draw (next_draw (next_draw x)) % 1461)
    → map said (rows ++ row ∷ []) ++ load_from (next_draw (next_draw (next_draw x))) row.timed.moment
    (packets - (before + 1)) ≡ all
whole_more x moment packets before rows row all lt whole is =
    let n = packets - (before + 1) in
    let count : packets - before ≡ suc (packets - (before + 1)) = omega arith in
    let after = next_draw (next_draw (next_draw x)) in
    ap (λ l. l ++ load_from after row.timed.moment n) (map-append said rows (row ∷ []))
    ∙ append_assoc (map said rows) (said row ∷ []) (load_from after row.timed.moment n)
    ∙ ap (λ s. map said rows ++ (s ∷ load_from after s.moment n)) is
    ∙ ap (λ k. map said rows ++ load_from x moment k) (sym count)
    ∙ whole
