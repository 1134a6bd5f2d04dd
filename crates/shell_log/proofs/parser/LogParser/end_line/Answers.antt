use Rattle.std.proofs.Common.{ap, sym, subst, refl, ◌∙◌, ◌∷◌, ◌+◌, Option}
use Rattle.shell_log.specs.declared.entry.Entry.{Entry}
use Rattle.shell_log.specs.Reading.{entry_of, fault_of}
use Rattle.shell_log.specs.LogParts.{LogPart, IsRead}
use Rattle.shell_log.specs.inside.LogParts.{IsRefusing, keeping}
use Rattle.shell_log.specs.views.LogParsers.{parser_view}
use Rattle.shell_log.proofs.PartLaws.{some_is, none_is, read_line, refuse_line}
use Rattle.shell_log.proofs.parser.LogParser.end_line.Goals as goal

pub returns-clause-some : goal.returns-clause-some
returns-clause-some c =
    let p = parser_view c.self.inside in
    some_is c.take.result _ _ (λ e h whole rest es read.
    read_line whole p.kept rest c.clear.new.self es e p c.take.new.self
    (ap (λ (q : LogPart). q.has_begun) c.self.view_is ∙ c.requires.begun) refl
    (sym (c.read_entry-said.ensures ∙ ap entry_of c.as_slice.ensures) ∙ h.0) h.1 h.2 c.clear.ensures
    (subst (IsRead whole (10 ∷ rest) es) (sym c.self.view_is) read)) c.take.ensures.some

pub returns-clause-none : goal.returns-clause-none
returns-clause-none c =
    let p = parser_view c.self.inside in
    none_is c.take.result _ _ (λ refuses whole more rest es read.
    refuse_line whole p.kept more rest c.clear.new.self es p c.take.new.self
    (ap (λ (q : LogPart). q.has_begun) c.self.view_is ∙ c.requires.begun) refl c.self.invariant.one_line
    (subst (λ (o : Option Entry). IsRefusing (fault_of (p.entries + 2) p.last o) (keeping c.clear.new.self p)
    c.take.new.self) (c.read_entry-said.ensures ∙ ap entry_of c.as_slice.ensures) refuses)
    (subst (IsRead whole (10 ∷ more) es) (sym c.self.view_is) read)) c.take.ensures.none
