use Rattle.std.proofs.Common.{◌≡◌, replicate}
use Rattle.sender_merge.specs.Inflows.{fresh}
use Rattle.sender_merge.proofs.incoming.Incoming.new_list.Given as goal

abbrev pub invariant-loop : goal.invariant-loop
invariant-loop l = l.senders.items ≡ replicate l.counter fresh
