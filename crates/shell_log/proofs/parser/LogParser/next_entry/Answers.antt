use Rattle.std.proofs.Common.{◌++◌, ap, sym, ◌∙◌}
use Rattle.shell_log.specs.LogParts.{LogPart}
use Rattle.shell_log.proofs.PartLaws.{front_read, front_refused, read_kept, none_kept, when_none}
use Rattle.shell_log.proofs.parser.LogParser.next_entry.Goals as goal

pub returns-in_err-entry-clause-none : goal.returns-in_err-entry-clause-none
returns-in_err-entry-clause-none c =
    let empty = ap (λ (p : LogPart). p.kept) (sym c.self.view_is)
    ∙ none_kept c.self.inside.kept (sym c.is_empty.ensures ∙ c.if-is_empty.true) in
    when_none c.from_residual.result _ (λ whole rest es read.
    front_refused whole c.args.piece.now c.in-Some.after.now rest es c.in-Some.entry c.args.self.now c.take.new.self
    c.requires.begun empty
    c.in-Some.ensures.0 c.in-Some.ensures.1 c.in_err-entry.ensures.none read)

pub returns-in-Some-clause-some : goal.returns-in-Some-clause-some
returns-in-Some-clause-some c = λ whole rest es read.
    let empty = ap (λ (p : LogPart). p.kept) (sym c.self.view_is)
    ∙ none_kept c.self.inside.kept (sym c.is_empty.ensures ∙ c.if-is_empty.true) in
    let taken = c.in_ok-entry.ensures.some in
    front_read whole c.args.piece.now c.in-Some.after.now rest es c.in-Some.entry c.in_ok-entry.entry c.args.self.now
    c.take.new.self c.requires.begun empty
    c.in-Some.ensures.0 c.in-Some.ensures.1 taken.0 taken.1 taken.2 read

pub returns-clause-some : goal.returns-clause-some
returns-clause-some c = λ whole rest es read.
    c.in_ok-entry-2.ensures.some whole (c.in_ok-after.after.now ++ rest) es
    (read_kept whole c.args.piece.now c.in_ok-after.after.now rest es c.args.self.now c.keep_line.new.self
    c.in_ok-after.ensures.some read)
