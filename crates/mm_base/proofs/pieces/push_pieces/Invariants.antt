use Rattle.std.proofs.Common.{◌≡◌, ◌-◌, ◌≤◌, ◌<◌, length}
use Rattle.mm_base.specs.Files.{IfThere}
use Rattle.mm_base.specs.Disk.{OnlyReads}
use Rattle.mm_base.specs.Pieces.{FrontIsRead}
use Rattle.mm_base.proofs.pieces.push_pieces.Given as goal

abbrev pub invariant-pieces : goal.invariant-pieces
invariant-pieces g l = record {
  piece : 0 < length l.piece;
  room : l.at ≤ l.size;
  front : (first : g.row.P.Denot) → FrontIsRead g.P.PieceReader.has_read (g.D.Disk.view l.fn.disk).files l.name l.place.at
      first
      l.fn.reader → FrontIsRead g.P.PieceReader.has_read (g.D.Disk.view l.fn.disk).files l.name l.at first l.reader;
  only_reads : OnlyReads (g.D.Disk.view l.fn.disk) (g.D.Disk.view l.disk);
  no_absence : IfThere (g.D.Disk.view l.fn.disk).files l.name
      ((g.D.Disk.view l.disk).absences ≡ (g.D.Disk.view l.fn.disk).absences);
}

abbrev pub decreases-pieces : goal.decreases-pieces
decreases-pieces g l = l.size - l.at
