use Rattle.std.proofs.Common.{◌+◌, ◌∙◌, subst, arith, rules}
use Rattle.mm_base.proofs.Then.{OnlyReads-then}
use Rattle.mm_base.specs.inside.Pieces.{PieceIsRead}
use Rattle.mm_base.proofs.PieceLemmas.{all_read, more_read}
use Rattle.mm_base.proofs.pieces.push_pieces.Goals as goal

pub pieces-preserved : goal.pieces-preserved
pieces-preserved g c =
    let has_read = g.P.PieceReader.has_read in
    let told = (g.D.Disk.view c.args.disk.now).files in
    let read = c.in_ok-read.read in
    let same = c.pieces.invariant.only_reads.same_files in
    let piece = subst (λ files. PieceIsRead has_read files c.args.place.now.name.now c.pieces.at read c.pieces.reader
    c.push_piece.new.reader) same c.in_ok-read.ensures.piece in
    record {
      piece = search rules;
      room = c.in_ok-read.ensures.short;
      front = λ first front. more_read has_read told c.args.place.now.name.now c.pieces.at read first c.pieces.reader
          c.push_piece.new.reader (c.pieces.invariant.front first front) piece;
      only_reads = OnlyReads-then c.pieces.invariant.only_reads c.push_piece.ensures.only_reads;
      no_absence = λ m files there. c.push_piece.ensures.no_absence m
          (c.pieces.invariant.only_reads.same_files ∙ files) there ∙ c.pieces.invariant.no_absence m files there;
    }

pub returns-then-read-eq0-clause-front : goal.returns-then-read-eq0-clause-front
returns-then-read-eq0-clause-front g c = λ first front.
    let has_read = g.P.PieceReader.has_read in
    let told = (g.D.Disk.view c.args.disk.now).files in
    let read = c.in_ok-read.read in
    let same = c.pieces.invariant.only_reads.same_files in
    let piece = subst (λ files. PieceIsRead has_read files c.args.place.now.name.now c.pieces.at read c.pieces.reader
    c.push_piece.new.reader) same c.in_ok-read.ensures.piece in
    all_read has_read told c.args.place.now.name.now (c.pieces.at + read) c.args.place.now.size first c.push_piece.new.reader
    (more_read has_read told c.args.place.now.name.now c.pieces.at read first c.pieces.reader c.push_piece.new.reader
    (c.pieces.invariant.front first front) piece)
    c.in_ok-read.ensures.short
    (λ m whole t h. let end = piece.are.end c.if-read-eq0.true m whole t h in omega (arith, end))
