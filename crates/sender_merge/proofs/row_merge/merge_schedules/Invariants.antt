use Rattle.std.proofs.Common.{◌≡◌, ◌++◌, length}
use Rattle.sender_merge.specs.Merges.{by_moment, row_moment, rows_from}
use Rattle.sender_merge.specs.inside.RowMerges.{left_from}
use Rattle.sender_merge.proofs.row_merge.merge_schedules.Given as goal

abbrev pub invariant-loop : goal.invariant-loop
invariant-loop l = (length l.places.items ≡ length l.schedules) × (length l.rows.items ≡ l.counter)
    × (l.rows.items ++ by_moment row_moment (left_from 1 l.schedules l.places.items)
    ≡ by_moment row_moment (rows_from 1 l.schedules))
