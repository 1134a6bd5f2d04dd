use Rattle.std.proofs.Common.{[], ◌∷◌, subst, sym, ◌∙◌}
use Rattle.std.proofs.lemmas.List.{append-nil}
use Rattle.text_base.specs.Lines.{lines_of}
use Rattle.packet_record.specs.Gathered.{Awaits}
use Rattle.packet_record.specs.PartsRead.{IsLeft, HasReadAll}
use Rattle.packet_record.proofs.PartLemmas.{none_kept, some_kept, last_line, no_line}
use Rattle.packet_record.proofs.parser.ScheduleParser.end.Goals as goal

pub returns-then-is_empty-clause-all : goal.returns-then-is_empty-clause-all
returns-then-is_empty-clause-all c = λ text read.
    let kept = c.self.inside.kept in
    let end = subst (λ t. IsLeft t [] c.args.self.now) (append-nil text) (read []) in
    let inside = subst (IsLeft text []) (sym c.self.view_is) end in
    subst (HasReadAll text) c.self.view_is
    (no_line (lines_of text) kept c.self.inside.rows (none_kept kept (sym c.if-is_empty.true ∙ c.is_empty.ensures))
    inside)

pub returns-clause-all : goal.returns-clause-all
returns-clause-all c = λ text read.
    let kept = c.self.inside.kept in
    let all = lines_of text in
    let end = subst (λ t. IsLeft t [] c.args.self.now) (append-nil text) (read []) in
    let inside = subst (IsLeft text []) (sym c.self.view_is) end in
    let next = last_line all kept c.self.inside.rows c.self.invariant.one_line
    (some_kept kept (sym c.if-is_empty.false ∙ c.is_empty.ensures)) inside in
    c.take.ensures.left all [] c.as_slice.result.now (sym c.read_line.ensures.value)
    (subst (λ l. Awaits all (l ∷ []) c.self.inside.rows) (sym c.as_slice.ensures) next)
