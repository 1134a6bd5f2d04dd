use Rattle.std.proofs.Common.{◌≡◌, ◌+◌, drop}
use Rattle.sender_merge.specs.Steps.{needed_from}
use Rattle.sender_merge.proofs.looks.needed.Given as goal

abbrev pub invariant-loop-index : goal.invariant-loop-index
invariant-loop-index l =
    needed_from l.candidate (l.index + 1) (drop l.index l.senders) ≡ needed_from l.candidate 1 l.senders
