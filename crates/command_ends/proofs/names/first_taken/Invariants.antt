use Rattle.std.proofs.Common.{◌≡◌, None, map, take}
use Rattle.command_ends.specs.Names.{first_taken}
use Rattle.command_ends.proofs.names.first_taken.Given as goal

abbrev pub invariant-loop-i : goal.invariant-loop-i
invariant-loop-i l = first_taken (map (λ name. name.now) l.taken) (take l.i (map (λ name. name.now) l.names)) ≡ None
