use Rattle.std.proofs.Common.{◌≡◌, ◌≢◌, ◌∷◌, List, ℕ, true, false, ap, sym, subst, ◌∙◌}
use Rattle.std.specs.Str.{bytes_eq}
use Rattle.std.proofs.lemmas.Slice.Eq.{bytes_eq-Decides}
use Rattle.shell_log.specs.LogText.{header}
use Rattle.shell_log.specs.LogParts.{LogPart, IsRead}
use Rattle.shell_log.specs.views.LogParsers.{parser_view}
use Rattle.shell_log.proofs.PartLaws.{read_header, read_other_header}
use Rattle.shell_log.proofs.parser.LogParser.end_header.Goals as goal

pub returns-then-not-is_header-clause-no : goal.returns-then-not-is_header-clause-no
returns-then-not-is_header-clause-no c = λ whole more rest es read other.
    let kept = c.self.inside.kept in
    let not_it : bytes_eq kept header ≡ false = sym (ap (λ (l : List ℕ). bytes_eq l header) c.as_slice.ensures)
    ∙ sym c.is_header.ensures ∙ c.if-not-is_header.true in
    let differs : kept ≢ header = λ e. let it : bytes_eq kept header ≡ true = (bytes_eq-Decides kept header).1 e in cc
    in
    read_other_header whole more es (parser_view c.self.inside) (ap (λ (p : LogPart). p.has_begun) c.self.view_is
    ∙ c.requires.first) differs c.self.invariant.one_line
    (subst (IsRead whole (10 ∷ more) es) (sym c.self.view_is) read)

pub returns-clause-yes : goal.returns-clause-yes
returns-clause-yes c = λ whole rest es read.
    let kept = c.self.inside.kept in
    let it : bytes_eq kept header ≡ true = sym (ap (λ (l : List ℕ). bytes_eq l header) c.as_slice.ensures)
    ∙ sym c.is_header.ensures ∙ c.if-not-is_header.false in
    subst (λ (k : List ℕ). IsRead whole rest es (record (parser_view c.self.inside) { has_begun = true; kept = k }))
    (sym c.clear.ensures)
    (read_header whole rest es (parser_view c.self.inside) (ap (λ (p : LogPart). p.has_begun) c.self.view_is
    ∙ c.requires.first) ((bytes_eq-Decides kept header).0 it)
    (subst (IsRead whole (10 ∷ rest) es) (sym c.self.view_is) read))
