use Rattle.std.proofs.Common.{◌≡◌, ◌+◌, drop}
use Rattle.sender_merge.specs.Steps.{all_clear}
use Rattle.sender_merge.proofs.looks.all_clear.Given as goal

abbrev pub invariant-loop-index : goal.invariant-loop-index
invariant-loop-index l =
    all_clear l.candidate (l.index + 1) (drop l.index l.senders) ≡ all_clear l.candidate 1 l.senders
