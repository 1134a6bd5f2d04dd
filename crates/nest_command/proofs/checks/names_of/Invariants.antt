use Rattle.std.proofs.Common.{◌≡◌, ◌++◌, map, take}
use Rattle.nest_command.proofs.checks.names_of.Given as goal

abbrev pub invariant-loop-name : goal.invariant-loop-name
invariant-loop-name l = map (λ name. name.now) l.names.items ≡ take l.name-index l.first

abbrev pub invariant-loop-name-2 : goal.invariant-loop-name-2
invariant-loop-name-2 l =
    map (λ name. name.now) l.names.items ≡ l.first ++ map (λ name. name.now) (take l.name-index l.others)
