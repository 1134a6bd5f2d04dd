use Rattle.std.proofs.Common.{◌≡◌, subst}
use Rattle.packet_record.specs.declared.packet.Row.{Row}
use Rattle.nest_spec.specs.declared.fate.Fate.{Fate}
use Rattle.nest_spec.specs.Fates.{fated}
use Rattle.nest_spec.specs.Marks.{Marks, held_in, passed}
use Rattle.nest_spec.proofs.marking.Marking.pass.Goals as goal

pub returns-clause-fates : goal.returns-clause-fates
returns-clause-fates c =
    let a = c.args in
    subst (λ (x : Marks). (f : Row → Fate) → x.fates ≡ fated f x.rows
    → c.mark_all.new.list.items ≡ fated (passed a.number a.lost.now a.held.now f) x.rows) c.self.view_is
    (λ f e. c.mark_all.ensures.fates (held_in a.held.now a.number f) (c.hold_all.ensures.fates f e))
