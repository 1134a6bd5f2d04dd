use Rattle.std.proofs.Common.{◌≡◌, ◌+◌, drop}
use Rattle.sender_merge.specs.Steps.{candidate_from, earlier}
use Rattle.sender_merge.proofs.looks.candidate.Given as goal

abbrev pub invariant-loop-index : goal.invariant-loop-index
invariant-loop-index l =
    earlier l.least (candidate_from (l.index + 1) (drop l.index l.senders)) ≡ candidate_from 1 l.senders
