-- What contracts see of a merge's result.
use Rattle.std.specs.Prelude.{List, [], Option, Some, None}
use Rattle.packet_record.specs.declared.packet.Row.{Row}
use Rattle.sender_merge.specs.Merges.{merge_rows}

-- the merge of the rows of senders that may be kept
abbrev pub merged_in : Option (List (List Row)) → List Row
merged_in None = []
merged_in (Some schedules) = merge_rows schedules
