-- Lists of rows, merged into one.
use Rattle.std.specs.Prelude.{◌≡◌, ℕ, ◌+◌, ◌<◌, ◌≤◌, List, [], ◌∷◌, ◌++◌, Option, None, Some, drop, map}
use Rattle.packet_record.specs.declared.packet.Row.{Row}
use Rattle.sender_merge.specs.Merges.{merged_row, row_moment}

-- each entry is at moment `m` or later
abbrev pub From : {A : Type 0} → (A → ℕ) → ℕ → List A → Type 0
From f m [] = Unit {0}
From f m (x ∷ xs) = (m ≤ f x) × From f m xs

-- no entry is before the one in front of it
abbrev pub Sorted : {A : Type 0} → (A → ℕ) → List A → Type 0
Sorted f [] = Unit {0}
Sorted f (x ∷ xs) = From f (f x) xs × Sorted f xs

-- each row has a number that a line may have
abbrev pub AllNumbered : List Row → Type 0
AllNumbered [] = Unit {0}
AllNumbered (r ∷ rows) = ((1 ≤ r.timed.packet.id) × (r.timed.packet.id ≤ 1000000)) × AllNumbered rows

-- the rows that are left of the schedules from `places` on, with their numbers in the merge; the first schedule is that
-- of sender `sender`
abbrev pub left_from : ℕ → List (List Row) → List ℕ → List Row
left_from sender [] places = []
left_from sender (rows ∷ schedules) [] = []
left_from sender (rows ∷ schedules) (place ∷ places) =
    map (merged_row sender) (drop place rows) ++ left_from (sender + 1) schedules places

-- the row is before the limit, if there is one
abbrev pub IsSoon : Option ℕ → Row → Type 0
IsSoon None r = Unit {0}
IsSoon (Some limit) r = r.timed.moment < limit

-- no row is before the limit; if there is no limit, there is no row
abbrev pub IsLate : Option ℕ → List Row → Type 0
IsLate None rows = rows ≡ []
IsLate (Some limit) rows = From row_moment limit rows

-- the limit of rows that are to come before `head`, or `limit` if there is no head
abbrev pub limit_before : Option Row → Option ℕ → Option ℕ
limit_before None limit = limit
limit_before (Some head) limit = Some head.timed.moment
