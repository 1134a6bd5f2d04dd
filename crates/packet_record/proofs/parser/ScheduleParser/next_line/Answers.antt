use Rattle.std.proofs.Common.{◌++◌, ◌∷◌, ◌∙◌, ap, append_assoc, subst, sym}
use Rattle.text_base.specs.Lines.{lines_of}
use Rattle.packet_record.specs.Gathered.{Awaits}
use Rattle.packet_record.specs.PartsRead.{IsLeft}
use Rattle.packet_record.proofs.PartLemmas.{none_kept, next_line}
use Rattle.packet_record.proofs.parser.ScheduleParser.next_line.Goals as goal

pub returns-in-Some-clause-some : goal.returns-in-Some-clause-some
returns-in-Some-clause-some c = λ whole rest left.
    let all = lines_of whole in
    let none = none_kept c.self.inside.kept (sym c.if-is_empty.true ∙ c.is_empty.ensures) in
    let read = c.in-Some.ensures.read in
    let more = c.in-Some.after.now ++ rest in
    let inside = subst (IsLeft whole (c.args.text.now ++ rest)) (sym c.self.view_is) left in
    let cut = ap (λ t. t ++ rest) read.1 ∙ append_assoc read.0 (10 ∷ c.in-Some.after.now) rest in
    let next = next_line all c.self.inside.kept read.0 more c.self.inside.rows none read.2
    (subst (λ t. Awaits all (lines_of (c.self.inside.kept ++ t)) c.self.inside.rows) cut inside) in
    subst (λ k. Awaits all (lines_of (k ++ more)) c.take.new.self) (sym none)
    (c.take.ensures.left all (lines_of more) read.0 read.3 next)
