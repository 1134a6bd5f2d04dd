-- For proofs alone: what the fields of `Senders` keep.
use Rattle.std.specs.Prelude.{◌≡◌, ◌≤◌, length}
use Rattle.sender_merge.specs.Merges.{merge_rows}
use Rattle.sender_merge.specs.inside.RowLists.{AllSchedules}
use Rattle.sender_merge.specs.declared.senders.Senders.TheInside.{Inside}

pub record AreSenders (s : Inside) : Type 0 where
  pub some : 1 ≤ length s.schedules.items
  pub few : length s.schedules.items ≤ 16
  pub schedules : AllSchedules s.schedules.items
  pub rows : s.rows.items ≡ merge_rows s.schedules.items
