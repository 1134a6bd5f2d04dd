use Rattle.std.proofs.Common.{◌++◌}
use Rattle.shell_log.proofs.PartLaws.{read_kept}
use Rattle.shell_log.proofs.parser.LogParser.pass_header.Goals as goal

pub returns-then-not-end_header-clause-none : goal.returns-then-not-end_header-clause-none
returns-then-not-end_header-clause-none c = λ whole rest es read.
    c.if-not-end_header.ensures.no whole (c.in_ok-after.after.now ++ rest) rest es
    (read_kept whole c.args.piece.now c.in_ok-after.after.now rest es c.args.self.now c.keep_line.new.self
    c.in_ok-after.ensures.some read)

pub returns-clause-some : goal.returns-clause-some
returns-clause-some c = λ whole rest es read.
    c.if-not-end_header.ensures.yes whole (c.in_ok-after.after.now ++ rest) es
    (read_kept whole c.args.piece.now c.in_ok-after.after.now rest es c.args.self.now c.keep_line.new.self
    c.in_ok-after.ensures.some read)
