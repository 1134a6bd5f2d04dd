-- The packets that enter.
use Rattle.std.proofs.Common.{◌≡◌, ℕ, ◌+◌, ◌≤◌, ◌&&◌, Bool, true, false, cond, nat_le, List, [], ◌∷◌, ◌++◌, filter, map}
use Rattle.std.proofs.Common.{refl, rules, tests}
use Rattle.std.proofs.lemmas.List.{map-append}
use Rattle.std.proofs.lemmas.List.Elements.{filter-append}
use Rattle.packet_record.specs.Rows.{goes, entering, Rises}
use Rattle.packet_record.specs.Orders.{AreInOrder}
use Rattle.packet_record.specs.Moments.{AreFrom, AreUpTo, Rise}
use Rattle.packet_record.specs.declared.packet.Direction.{Direction}
use Rattle.packet_record.specs.declared.packet.Timed.{Timed}
use Rattle.packet_record.specs.declared.packet.Row.{Row}
use Rattle.packet_record.proofs.MomentsLemmas.{from_lower}

pub entering-append : (d : Direction) (h : ℕ) (xs ys : List Row) → entering d h (xs ++ ys) ≡ entering d h xs
    ++ entering d h ys
entering-append d h xs ys = simp (filter-append, map-append)

-- the rows of a schedule rise
pub rises-in_order : (place low : ℕ) (rows : List Row) → AreInOrder place low rows → Rises low rows
rises-in_order place low [] order = tt
rises-in_order place low (row ∷ rows) order = (order.1, rises-in_order (place + 1) row.timed.moment rows order.2)

abbrev timed_of : List Row → List Timed
timed_of rows = map (λ (r : Row). r.timed) rows

one_from : (keep : Bool) (m : ℕ) (row : Row) (rows : List Row) → m ≤ row.timed.moment → AreFrom m (timed_of rows)
    → AreFrom m (timed_of (cond keep (row ∷ rows) rows))
one_from true m row rows le from = (le, from)
one_from false m row rows le from = from

-- they are not before the first moment
pub from-entering : (d : Direction) (h low : ℕ) (rows : List Row) → Rises low rows → AreFrom low (entering d h rows)
from-entering d h low [] rises = tt
from-entering d h low (row ∷ rows) rises =
    one_from (goes d row.direction && nat_le row.timed.moment h) low row
    (filter (λ (r : Row). goes d r.direction && nat_le r.timed.moment h) rows) rises.0
    (from_lower low row.timed.moment (entering d h rows) rises.0 (from-entering d h row.timed.moment rows rises.1))

one_rises : (keep : Bool) (row : Row) (rows : List Row) → AreFrom row.timed.moment (timed_of rows)
    → Rise (timed_of rows) → Rise (timed_of (cond keep (row ∷ rows) rows))
one_rises true row rows from rise = (from, rise)
one_rises false row rows from rise = rise

-- their moments never fall
pub rise-entering : (d : Direction) (h low : ℕ) (rows : List Row) → Rises low rows → Rise (entering d h rows)
rise-entering d h low [] rises = tt
rise-entering d h low (row ∷ rows) rises =
    one_rises (goes d row.direction && nat_le row.timed.moment h) row
    (filter (λ (r : Row). goes d r.direction && nat_le r.timed.moment h) rows)
    (from-entering d h row.timed.moment rows rises.1) (rise-entering d h row.timed.moment rows rises.1)

le_of_tests : (own : Bool) (m n : ℕ) → (own && nat_le m n) ≡ true → m ≤ n
le_of_tests true m n e = search (rules, tests)
le_of_tests false m n e = absurd cc

one_up_to : (keep : Bool) (m : ℕ) (row : Row) (rows : List Row) → (keep ≡ true → row.timed.moment ≤ m)
    → AreUpTo m (timed_of rows) → AreUpTo m (timed_of (cond keep (row ∷ rows) rows))
one_up_to true m row rows le up_to = (le refl, up_to)
one_up_to false m row rows le up_to = up_to

-- they are up to the horizon
pub up_to-entering : (d : Direction) (h : ℕ) (rows : List Row) → AreUpTo h (entering d h rows)
up_to-entering d h [] = tt
up_to-entering d h (row ∷ rows) =
    one_up_to (goes d row.direction && nat_le row.timed.moment h) h row
    (filter (λ (r : Row). goes d r.direction && nat_le r.timed.moment h) rows)
    (le_of_tests (goes d row.direction) row.timed.moment h) (up_to-entering d h rows)
