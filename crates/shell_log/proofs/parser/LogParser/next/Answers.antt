use Rattle.std.proofs.Common.{◌≡◌, ◌++◌, None, ap, sym, ◌∙◌}
use Rattle.shell_log.specs.LogParts.{LogPart}
use Rattle.shell_log.proofs.PartLaws.{left_read, not_some, some_is, none_is}
use Rattle.shell_log.proofs.parser.LogParser.next.Goals as goal

pub returns-clause-some : goal.returns-clause-some
returns-clause-some c =
    let none : c.args.self.now.refused ≡ None = ap (λ (p : LogPart). p.refused) (sym c.self.view_is)
    ∙ not_some c.self.inside.refused (sym c.is_some.ensures ∙ c.if-is_some.false) in
    some_is c.next_entry.result _ _ (λ r h whole rest es left.
    h whole rest es (c.in_ok-rest.ensures.some whole rest es
    (left_read whole (c.args.piece.now ++ rest) es c.args.self.now none left))) c.next_entry.ensures.some

pub returns-clause-none : goal.returns-clause-none
returns-clause-none c =
    let none : c.args.self.now.refused ≡ None = ap (λ (p : LogPart). p.refused) (sym c.self.view_is)
    ∙ not_some c.self.inside.refused (sym c.is_some.ensures ∙ c.if-is_some.false) in
    none_is c.next_entry.result _ _ (λ h whole rest es left.
    h whole rest es (c.in_ok-rest.ensures.some whole rest es
    (left_read whole (c.args.piece.now ++ rest) es c.args.self.now none left))) c.next_entry.ensures.none

pub returns-clause-stays : goal.returns-clause-stays
returns-clause-stays c = λ going. ap (λ (p : LogPart). p.refused) (sym c.self.view_is)
    ∙ not_some c.self.inside.refused (sym c.is_some.ensures ∙ c.if-is_some.false)
