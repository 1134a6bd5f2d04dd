use Rattle.std.proofs.Common.{take}
use Rattle.mm_base.proofs.pieces.push_piece.Goals as goal

pub returns-clause-piece : goal.returns-clause-piece
returns-clause-piece g c = record {
  bytes = take c.in_ok-read.read c.read_piece.new.piece;
  are = c.in_ok-read.ensures.piece;
  goes_on = c.push.ensures;
}
