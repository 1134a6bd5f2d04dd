use Rattle.std.proofs.Common.{◌∙◌, subst}
use Rattle.mm_base.proofs.Then.{OnlyReads-then}
use Rattle.shell_workers.specs.inside.Reading.{HasReadPiece}
use Rattle.shell_workers.proofs.Reading.{ended_front, more_front}
use Rattle.shell_workers.proofs.streaming.stream_pieces.Goals as goal

pub pieces-preserved : goal.pieces-preserved
pieces-preserved g c =
    let old = c.pieces.invariant in
    let new = c.in_ok-read.ensures in
    record {
      is_at = new.at;
      sent = new.sent;
      front = more_front _ _ c.in_ok-read.read _ _ _ old.only_reads.same_files old.front new.piece;
      same = (
        (new.same.0.0 ∙ old.same.0.0, new.same.0.1 ∙ old.same.0.1),
        (new.same.1.0 ∙ old.same.1.0, new.same.1.1 ∙ old.same.1.1),
      );
      only_reads = OnlyReads-then old.only_reads new.reads.only_reads;
    }

pub returns-then-read-eq0-clause-front : goal.returns-then-read-eq0-clause-front
returns-then-read-eq0-clause-front g c =
    more_front _ _ c.in_ok-read.read _ _ _ c.pieces.invariant.only_reads.same_files c.pieces.invariant.front
    c.in_ok-read.ensures.piece

pub returns-then-read-eq0-clause-whole : goal.returns-then-read-eq0-clause-whole
returns-then-read-eq0-clause-whole g c = λ going.
    ended_front _ (g.D.Disk.view c.pieces.disk).files _ c.pieces.file c.stream_piece.new.file
    c.pieces.invariant.only_reads.same_files c.pieces.invariant.front
    (subst (λ n. HasReadPiece (g.D.Disk.view c.pieces.disk).files n c.pieces.file c.stream_piece.new.file)
    c.if-read-eq0.true c.in_ok-read.ensures.piece)
