use Rattle.std.proofs.Common.{◌∷◌, ◌++◌, sym, subst, ◌∙◌}
use Rattle.text_base.specs.Lines.{lines_of}
use Rattle.text_base.proofs.TextLemmas.{lines_of-line}
use Rattle.packet_record.specs.Gathered.{Awaits}
use Rattle.packet_record.specs.PartsRead.{IsLeft}
use Rattle.packet_record.proofs.PartLemmas.{none_kept, next_line}
use Rattle.packet_record.proofs.parser.ScheduleParser.end_line.Goals as goal

pub returns-then-is_empty-clause-left : goal.returns-then-is_empty-clause-left
returns-then-is_empty-clause-left c = λ whole rest left.
    let none = none_kept c.self.inside.kept (sym c.if-is_empty.true ∙ c.is_empty.ensures) in
    let inside = subst (IsLeft whole (c.args.part.now ++ 10 ∷ rest)) (sym c.self.view_is) left in
    subst (λ k. Awaits (lines_of whole) (lines_of (k ++ rest)) c.take.new.self) (sym none)
    (c.take.ensures.left (lines_of whole) (lines_of rest) c.args.part.now (sym c.read_line.ensures.value)
    (next_line (lines_of whole) c.self.inside.kept c.args.part.now rest c.self.inside.rows none c.requires inside))

pub returns-clause-left : goal.returns-clause-left
returns-clause-left c = λ whole rest left.
    let line = c.self-2.inside.kept in
    let inside = subst (IsLeft whole (10 ∷ rest)) (sym c.self-2.view_is) (c.keep.ensures.left whole (10 ∷ rest) left) in
    let next = subst (λ ls. Awaits (lines_of whole) ls c.self-2.inside.rows)
    (lines_of-line line rest c.self-2.invariant.one_line) inside in
    subst (λ k. Awaits (lines_of whole) (lines_of (k ++ rest)) c.take-2.new.self) (sym c.clear.ensures)
    (c.take-2.ensures.left (lines_of whole) (lines_of rest) c.as_slice.result.now (sym c.read_line-2.ensures.value)
    (subst (λ l. Awaits (lines_of whole) (l ∷ lines_of rest) c.self-2.inside.rows) (sym c.as_slice.ensures) next))
