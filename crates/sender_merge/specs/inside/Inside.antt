-- For proofs alone: what the fields of a merge keep.
use Rattle.std.specs.Prelude.{◌≡◌, ◌≤◌, length}
use Rattle.sender_merge.specs.Inflows.{merging}
use Rattle.sender_merge.specs.inside.Lefts.{left_of}
use Rattle.sender_merge.specs.inside.Standing.{Stands}
use Rattle.sender_merge.specs.declared.merge_core.MergeCore.TheInside.{Inside}

pub record IsMergeCore (m : Inside) : Type 0 where
  pub some : 1 ≤ length m.senders.items
  pub few : length m.senders.items ≤ 16
  pub waiting : m.waiting ≡ left_of m.senders.items
  pub room : m.waiting ≤ m.given.spare
  pub stands : Stands (merging m.senders.items m.given.stream)
