use Rattle.std.proofs.Common.{◌≡◌, map, take}
use Rattle.command_merge.proofs.fate.sender_fates.Given as goal

abbrev pub invariant-loop-fate : goal.invariant-loop-fate
invariant-loop-fate l = map (λ fate. fate.0) l.list.items ≡ take l.fate-index l.fates
