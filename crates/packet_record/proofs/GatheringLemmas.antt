-- One line more of a schedule.
use Rattle.std.proofs.Common.{◌≡◌, ℕ, ◌+◌, ◌≤◌, ◌<◌, List, [], ◌∷◌, ◌++◌, length}
use Rattle.std.proofs.Common.{arith, length-append}
use Rattle.packet_record.specs.Orders.{AreInOrder, AreWithin, IsSchedule}
use Rattle.packet_record.specs.declared.packet.Row.{Row}

in_order_more : (place low moment : ℕ) (rows : List Row) (row : Row) → AreInOrder place low rows
    → AreWithin moment rows → low ≤ row.timed.moment → moment ≤ row.timed.moment
    → row.timed.packet.id ≡ place + length rows → AreInOrder place low (rows ++ row ∷ [])
in_order_more place low moment [] row order below from le id = (omega (arith, id), from, tt)
in_order_more place low moment (first ∷ rows) row order below from le id = (
  order.0,
  order.1,
  in_order_more (place + 1) first.timed.moment moment rows row order.2 below.1
      (omega (arith, below.0)) le (omega (arith, id)),
)

within_more : (moment most : ℕ) (rows : List Row) (row : Row) → AreWithin moment rows → moment ≤ most
    → row.timed.moment ≤ most → AreWithin most (rows ++ row ∷ [])
within_more moment most [] row below le within = (within, tt)
within_more moment most (first ∷ rows) row below le within =
    (omega (arith, below.0), within_more moment most rows row below.1 le within)

pub below_more : (low : ℕ) (rows : List Row) (row : Row) → AreWithin low rows → low ≤ row.timed.moment
    → AreWithin row.timed.moment (rows ++ row ∷ [])
below_more low rows row below le = within_more low row.timed.moment rows row below le (omega arith)

-- a schedule with a row more
pub schedule_more : (low : ℕ) (rows : List Row) (row : Row) → IsSchedule rows → AreWithin low rows
    → low ≤ row.timed.moment → row.timed.moment ≤ 9999999999
    → row.timed.packet.id ≡ length rows + 1 → length rows < 1000000 → IsSchedule (rows ++ row ∷ [])
schedule_more low rows row is below le within id few = record {
  few = omega (arith, length-append rows (row ∷ []));
  order = in_order_more 1 0 low rows row is.order below (omega arith) le (omega (arith, id));
  within = within_more 9999999999 9999999999 rows row is.within (omega arith) within;
}
