use Rattle.std.proofs.Common.{◌≡◌, drop}
use Rattle.sender_merge.specs.Steps.{lesser, merged_bound}
use Rattle.sender_merge.proofs.looks.merged_bound.Given as goal

abbrev pub invariant-loop-incoming : goal.invariant-loop-incoming
invariant-loop-incoming l =
    lesser l.least (merged_bound (drop l.incoming-index l.senders)) ≡ merged_bound l.senders
