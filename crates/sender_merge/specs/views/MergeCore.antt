-- A merge as its callers see it.
use Rattle.sender_merge.specs.Inflows.{Merging, merging}
use Rattle.sender_merge.specs.declared.merge_core.MergeCore.TheInside.{Inside}

abbrev pub merging_view : Inside → Merging
merging_view m = merging m.senders.items m.given.stream
