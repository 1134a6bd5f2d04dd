use Rattle.std.proofs.Common.{◌≡◌, ◌++◌, ℕ, List, length}
use Rattle.mm_base.specs.Files.{lengthened}
use Rattle.mm_base.specs.Disk.{OnlyWrites}
use Rattle.shell_log.specs.LogText.{lines_text}
use Rattle.nest_command.proofs.run_files.append_pieces.Given as goal

abbrev pub invariant-pieces : goal.invariant-pieces
invariant-pieces g l = record {
  so_far : (front : List ℕ)
      × (front ++ lines_text (l.pieces.piece ++ l.pieces.rest)
      ≡ lines_text (l.fn.pieces.piece ++ l.fn.pieces.rest))
      × ((g.D.Disk.view l.disk).files ≡ lengthened l.name front (g.D.Disk.view l.fn.disk).files);
  only_writes : OnlyWrites (g.D.Disk.view l.fn.disk) (g.D.Disk.view l.disk);
}

abbrev pub decreases-pieces : goal.decreases-pieces
decreases-pieces g l = length l.pieces.rest
