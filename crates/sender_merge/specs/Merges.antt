-- The merge of what several senders send: ordered by moment, then sender, then place. Senders and lines are counted
-- from 1.
use Rattle.std.specs.Prelude.{ℕ, ◌+◌, ◌-◌, ◌*◌, List, [], ◌∷◌, ◌++◌, map, nat_le, if◌then◌else◌}
use Rattle.std.specs.List.{flat_map}
use Rattle.packet_record.specs.declared.packet.Timed.{Timed}
use Rattle.packet_record.specs.declared.packet.Row.{Row}

-- `x` in front of the first entry that isn't earlier
abbrev pub put : {A : Type 0} → (A → ℕ) → A → List A → List A
put moment x [] = x ∷ []
put moment x (y ∷ ys) = if nat_le (moment x) (moment y) then x ∷ (y ∷ ys) else y ∷ put moment x ys

-- the entries ordered by moment; those of one moment keep their order
abbrev pub by_moment : {A : Type 0} → (A → ℕ) → List A → List A
by_moment moment [] = []
by_moment moment (x ∷ xs) = put moment x (by_moment moment xs)

abbrev pub packet_moment : Timed → ℕ
packet_moment t = t.moment

abbrev pub row_moment : Row → ℕ
row_moment row = row.timed.moment

-- the merge of the packets of flows, the first sender's first
abbrev pub merge : List (List Timed) → List Timed
merge flows = by_moment packet_moment (flat_map (λ (packets : List Timed). packets) flows)

-- the number that line `line` of sender `sender` has in the merge
abbrev pub merged_id : ℕ → ℕ → ℕ
merged_id sender line = 16 * (line - 1) + sender

-- a sender's row with its number in the merge; in its schedule it has the number of its line
abbrev pub merged_row : ℕ → Row → Row
merged_row sender row = record row {
  timed = record row.timed { packet = record row.timed.packet { id = merged_id sender row.timed.packet.id } };
}

-- the rows of all schedules with their numbers in the merge; the first schedule is that of sender `sender`
abbrev pub rows_from : ℕ → List (List Row) → List Row
rows_from sender [] = []
rows_from sender (rows ∷ schedules) = map (merged_row sender) rows ++ rows_from (sender + 1) schedules

-- the merge of schedules
abbrev pub merge_rows : List (List Row) → List Row
merge_rows schedules = by_moment row_moment (rows_from 1 schedules)
