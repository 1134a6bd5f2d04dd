use Rattle.std.proofs.Common.{List, [], ◌∷◌, ◌++◌}
use Rattle.mm_base.specs.MemLink.{MemLinkState, IsUnused}
use Rattle.mm_base.specs.MemPort.{AllUnused}
use Rattle.serve_tests.proofs.links.links.Goals as goal

-- one link more on which no call was made
all_unused-append : (links : List MemLinkState) (link : MemLinkState) → AllUnused links → IsUnused link
    → AllUnused (links ++ link ∷ [])
all_unused-append [] link all one = (one, tt)
all_unused-append (x ∷ xs) link all one = (all.0, all_unused-append xs link all.1 one)

pub says-preserved : goal.says-preserved
says-preserved c = rw c.in_ok-push.ensures.items
    (all_unused-append c.says.links.items c.in_ok-link.field-0 c.says.invariant c.in_ok-link.ensures)
