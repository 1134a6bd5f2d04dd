use Rattle.std.proofs.Common.{◌≡◌, ◌++◌, ℕ, List, length}
use Rattle.std.specs.List.{flat_map}
use Rattle.mm_base.specs.Files.{lengthened}
use Rattle.mm_base.specs.Disk.{OnlyWrites}
use Rattle.mm_base.proofs.line_texts.append_lines.Given as goal

abbrev pub invariant-pieces : goal.invariant-pieces
invariant-pieces g l = record {
  so_far : (front : List ℕ) × (front ++ flat_map g.T.PrintLine.line l.left ≡ flat_map g.T.PrintLine.line l.items)
      × ((g.D.Disk.view l.disk).files ≡ lengthened l.name front (g.D.Disk.view l.fn.disk).files);
  only_writes : OnlyWrites (g.D.Disk.view l.fn.disk) (g.D.Disk.view l.disk);
}

abbrev pub decreases-pieces : goal.decreases-pieces
decreases-pieces g l = length l.left
