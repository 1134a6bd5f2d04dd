use Rattle.std.proofs.Common.{Some, ap, sym, ◌∙◌}
use Rattle.shell_log.specs.LogParts.{LogPart}
use Rattle.shell_log.proofs.PartLaws.{keep_refused}
use Rattle.shell_log.proofs.parser.LogParser.keep.Goals as goal

pub returns-then-part-len-clause-no : goal.returns-then-part-len-clause-no
returns-then-part-len-clause-no c = λ whole more rest es read other.
    keep_refused whole c.args.part.now more c.self.inside.kept c.len.result es c.args.self.now
    (ap (λ (p : LogPart). p.kept) c.self.view_is)
    c.self.invariant.one_line c.requires.one_line c.len.ensures c.if-part-len.true read
    ∙ ap Some (sym c.bad_line.ensures)
