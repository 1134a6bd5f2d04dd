-- The rows of a schedule have the numbers 1, 2, 3 and on.
use Rattle.std.proofs.Common.{◌≡◌, ℕ, zero, suc, ◌+◌, ◌<◌, List, [], ◌∷◌, length, get_or, arith}
use Rattle.packet_record.specs.declared.packet.Row.{Row}
use Rattle.packet_record.specs.Orders.{AreInOrder, IsSchedule}
use Rattle.packet_record.specs.Rows.{AreApart}
use Rattle.nest_spec.specs.inside.Index.{AreFromOne}

id_at : (place low : ℕ) (rows : List Row) (i : ℕ) (d : Row) → AreInOrder place low rows → i < length rows
    → (get_or rows i d).timed.packet.id ≡ place + i
id_at place low [] i d order lt = absurd (omega arith)
id_at place low (row ∷ rows) zero d order lt = omega (arith, order.0)
id_at place low (row ∷ rows) (suc i) d order lt = let rest = id_at (place + 1) row.timed.moment rows i d order.2
    (omega arith) in omega arith

pub numbered : (rows : List Row) → IsSchedule rows → AreFromOne rows
numbered rows is i d lt = let at = id_at 1 0 rows i d is.order lt in omega arith

pub apart : (rows : List Row) → AreInOrder 1 0 rows → AreApart rows
apart rows order i j d lt lt' same =
    let one = id_at 1 0 rows i d order lt in
    let two = id_at 1 0 rows j d order lt' in
    omega arith
