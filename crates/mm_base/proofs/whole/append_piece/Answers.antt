use Rattle.std.proofs.Common.{length, take, drop, ap, sym, ◌∙◌, arith, length-append}
use Rattle.mm_base.proofs.ListPieces.{appended_piece}
use Rattle.mm_base.proofs.whole.append_piece.Goals as goal

pub returns-then-read-eq0-clause-end : goal.returns-then-read-eq0-clause-end
returns-then-read-eq0-clause-end g c = λ _ m whole told held.
    let end = c.in_ok-read.ensures.piece.end c.if-read-eq0.true m whole told held in omega (arith, end, c.len-at.ensures)

pub returns-clause-more : goal.returns-clause-more
returns-clause-more g c = λ _.
    let piece = take c.in_ok-read.read c.read_piece.new.piece in
    omega (
      arith,
      ap length c.in_ok-append.ensures.ok,
      length-append c.args.bytes.now piece,
      c.in_ok-read.ensures.piece.long,
    )

pub returns-clause-bytes : goal.returns-clause-bytes
returns-clause-bytes g c = λ m whole told held front.
    let is = c.in_ok-append.ensures.ok in
    let piece = take c.in_ok-read.read c.read_piece.new.piece in
    let read = c.in_ok-read.ensures.piece.held m whole told held in
    is ∙ appended_piece whole c.args.bytes.now piece front c.in_ok-read.read c.in_ok-read.ensures.piece.long
    (read ∙ ap (λ n. take c.in_ok-read.read (drop n whole)) c.len-at.ensures)
    ∙ ap (λ l. take (length l) whole) (sym is)

pub returns-clause-short : goal.returns-clause-short
returns-clause-short g c =
    let piece = take c.in_ok-read.read c.read_piece.new.piece in
    omega (
      arith,
      ap length c.in_ok-append.ensures.ok,
      length-append c.args.bytes.now piece,
      c.in_ok-read.ensures.piece.long,
      c.in_ok-read.ensures.short,
      c.len-at.ensures,
    )
