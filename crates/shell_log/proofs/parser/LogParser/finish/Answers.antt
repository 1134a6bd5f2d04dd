use Rattle.std.proofs.Common.{◌≡◌, ◌<◌, true, false, Some, [], length, ap, sym, subst, ◌∙◌}
use Rattle.shell_log.specs.LogParts.{LogPart, IsLeft}
use Rattle.shell_log.specs.views.LogParsers.{parser_view}
use Rattle.shell_log.proofs.PartLaws.{read_end, read_open_end, left_read, none_kept, some_kept}
use Rattle.shell_log.proofs.parser.LogParser.finish.Goals as goal
use Rattle.shell_log.proofs.parser.LogParser.finish.Goals.{then-not-self-via-then-not-self}
use Rattle.shell_log.proofs.parser.LogParser.finish.Goals.{then-not-self-via-else-not-self+then-not-is_empty}

pub returns-then-not-self-clause-exact : goal.returns-then-not-self-clause-exact
returns-then-not-self-clause-exact c = λ whole es left other.
    let p = parser_view c.self.inside in
    let some : p.has_begun ≡ true → 0 < length p.kept =
    elim c.then-not-self.branch [
      | then-not-self-via-then-not-self w ↦ λ begun. let no : p.has_begun ≡ false = w.if-not-self.true in cc
      | then-not-self-via-else-not-self+then-not-is_empty w ↦ λ begun. some_kept p.kept (sym w.is_empty.ensures
          ∙ w.if-not-is_empty.true)
    ] in
    read_open_end whole es p c.self.invariant.one_line some
    (left_read whole [] es p c.in_default.is (subst (IsLeft whole [] es) (sym c.self.view_is) left))
    ∙ ap (λ (q : LogPart). Some (Rattle.shell_log.specs.inside.LogParts.bad_line q)) c.self.view_is
    ∙ ap Some (sym c.bad_line.ensures)

pub returns-clause-exact : goal.returns-clause-exact
returns-clause-exact c = λ whole es left.
    let p = parser_view c.self.inside in
    (read_end whole es p c.if-not-self.false (none_kept p.kept (sym c.is_empty.ensures ∙ c.if-not-is_empty.false))
    (left_read whole [] es p c.in_default.is (subst (IsLeft whole [] es) (sym c.self.view_is) left))).1

pub returns-clause-found : goal.returns-clause-found
returns-clause-found c = λ whole es left.
    let p = parser_view c.self.inside in
    let read = left_read whole [] es p c.in_default.is (subst (IsLeft whole [] es) (sym c.self.view_is) left) in (
      (read_end whole es p c.if-not-self.false (none_kept p.kept (sym c.is_empty.ensures ∙ c.if-not-is_empty.false))
          read).0,
      read.log,
    )
