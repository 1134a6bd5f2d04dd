-- For proofs alone: where the row of each number stands.
use Rattle.std.specs.Prelude.{◌≡◌, ◌≢◌, ◌<◌, ◌+◌, ◌/◌, ◌%◌, ℕ, List, [], ◌∷◌, Option, None, Some, Vec, length, get_or}
use Rattle.std.specs.Prelude.{nat_eq, slice_get, suc, zero}
use Rattle.std.specs.declared.alloc.Global.{Global}
use Rattle.std.specs.declared.hash.FoldHasher.{FoldHasher}
use Rattle.std.specs.declared.hash.BuildHasherDefault.{BuildHasherDefault}
use Rattle.std.specs.HashMap.{get, HashMap}
use Rattle.packet_record.specs.declared.packet.Row.{Row}
use Rattle.packet_record.specs.Rows.{AreApart}

-- The index leads from the number of each row to the row's place, and from no other number.
pub record IsIndex (rows : List Row) (index : HashMap ℕ ℕ (BuildHasherDefault FoldHasher)) : Type 0 where
  pub leads : (i : ℕ) (d : Row) → i < length rows → get nat_eq index (get_or rows i d).timed.packet.id ≡ Some i
  pub within : (id i : ℕ) → get nat_eq index id ≡ Some i → i < length rows
  pub only : (id i : ℕ) (d : Row) → get nat_eq index id ≡ Some i → (get_or rows i d).timed.packet.id ≡ id

-- No row has the number `id`.
abbrev pub IsNowhere : List Row → ℕ → Type 0
IsNowhere rows id = (j : ℕ) (d : Row) → j < length rows → (get_or rows j d).timed.packet.id ≢ id

-- The row at the place `i` has the number `id`, and no other row has it.
pub record IsOnlyAt (rows : List Row) (id i : ℕ) : Type 0 where
  pub within : i < length rows
  pub here : (d : Row) → (get_or rows i d).timed.packet.id ≡ id
  pub others : (j : ℕ) (d : Row) → j < length rows → j ≢ i → (get_or rows j d).timed.packet.id ≢ id

-- The rows are numbered 1, 2, 3 and so on.
abbrev pub AreFromOne : List Row → Type 0
AreFromOne rows = (i : ℕ) (d : Row) → i < length rows → (get_or rows i d).timed.packet.id ≡ i + 1

-- what the list `n` has at `k`
abbrev pub listed : List (Vec ℕ Global) → ℕ → ℕ → Option ℕ
listed [] n k = None
listed (list ∷ lists) zero k = slice_get list.items k
listed (list ∷ lists) (suc n) k = listed lists n k

-- the place that the lists have for the number `id`
abbrev pub place_in : List (Vec ℕ Global) → ℕ → Option ℕ
place_in lists id = listed lists (id % 16) (id / 16)

-- No two rows have one number, and the lists have the place of each.
pub record AreListed (rows : List Row) (lists : List (Vec ℕ Global)) : Type 0 where
  pub apart : AreApart rows
  pub leads : (i : ℕ) (d : Row) → i < length rows → place_in lists (get_or rows i d).timed.packet.id ≡ Some i
