use Rattle.std.proofs.Common.{◌≡◌, ◌++◌, ℕ, List, length}
use Rattle.mm_base.specs.Files.{lengthened}
use Rattle.mm_base.specs.Disk.{OnlyWrites}
use Rattle.nest_spec.specs.TableText.{table_lines}
use Rattle.nest_command.proofs.packet_files.append_table.Given as goal

abbrev pub invariant-pieces : goal.invariant-pieces
invariant-pieces g l = record {
  so_far : (front : List ℕ)
      × (front ++ table_lines g.P.TableRow.row_of g.F.TableFate.entry_of l.left l.ends
      ≡ table_lines g.P.TableRow.row_of g.F.TableFate.entry_of l.rows l.fates)
      × ((g.D.Disk.view l.disk).files ≡ lengthened l.name front (g.D.Disk.view l.fn.disk).files);
  only_writes : OnlyWrites (g.D.Disk.view l.fn.disk) (g.D.Disk.view l.disk);
}

abbrev pub decreases-pieces : goal.decreases-pieces
decreases-pieces g l = length l.left
