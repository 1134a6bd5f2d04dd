use Rattle.std.proofs.Common.{◌≤◌, take, drop, ap, sym, ◌∙◌, arith}
use Rattle.std.proofs.lemmas.List.{length-take, take-take}
use Rattle.mm_base.proofs.pieces.read_piece.Goals as goal

pub returns-clause-piece : goal.returns-clause-piece
returns-clause-piece g c =
    let n = c.min-wanted.result in
    let read = c.in_ok-read.read in
    let buf = c.read_at.new.buf in
    let le : n ≤ read = omega (arith) in
    record {
      long = omega (arith, length-take n buf, c.in_ok-read.ensures.within);
      held = λ m whole told held.
          sym (take-take n read buf le) ∙ ap (take n) (c.in_ok-read.ensures.bytes m whole told held)
          ∙ take-take n read (drop c.args.place.now.at whole) le;
      end = λ none m whole told held. let e = c.in_ok-read.ensures.end m whole told held
          in e.1 (omega arith) c.requires.some;
    }
