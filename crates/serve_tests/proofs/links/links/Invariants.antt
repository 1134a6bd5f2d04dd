use Rattle.mm_base.specs.MemPort.{AllUnused}
use Rattle.serve_tests.proofs.links.links.Given as goal

abbrev pub invariant-says : goal.invariant-says
invariant-says l = AllUnused l.links.items
