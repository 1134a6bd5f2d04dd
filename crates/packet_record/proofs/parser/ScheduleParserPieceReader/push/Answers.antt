use Rattle.std.proofs.Common.{◌++◌, append_assoc, subst, sym, ◌∙◌, arith}
use Rattle.std.proofs.lemmas.Grind.{common_steps}
use Rattle.text_base.specs.Lines.{lines_of}
use Rattle.packet_record.specs.PartsRead.{IsLeft}
use Rattle.packet_record.proofs.PartLemmas.{awaits_any}
use Rattle.packet_record.proofs.parser.ScheduleParserPieceReader.push.Goals as goal

pub returns-then-is_refused-clause-read : goal.returns-then-is_refused-clause-read
returns-then-is_refused-clause-read c = λ text read rest.
    let refused = sym c.is_refused.ensures ∙ c.if-is_refused.true in
    let piece = c.args.piece.now in
    let left = subst (λ whole. IsLeft whole (piece ++ rest) c.args.self.now) (sym (append_assoc text piece rest))
    (read (piece ++ rest)) in
    let inside = subst (IsLeft ((text ++ piece) ++ rest) (piece ++ rest)) (sym c.self.view_is) left in
    subst (IsLeft ((text ++ piece) ++ rest) rest) c.self.view_is
    (awaits_any (lines_of ((text ++ piece) ++ rest)) _ (lines_of (c.self.inside.kept ++ rest)) c.self.inside.rows
    refused inside)

pub returns-clause-read : goal.returns-clause-read
returns-clause-read c = grind (arith, common_steps)
