use Rattle.std.proofs.Common.{◌∙◌, [], ap, subst}
use Rattle.live_relay.specs.Lines.{LineParts, IsSettled}
use Rattle.live_relay.specs.views.Meeting.{fed_of, last_taken}
use Rattle.live_relay.proofs.Carrying.{last_any}
use Rattle.live_relay.proofs.Lining.{line_settles}
use Rattle.live_relay.proofs.line.Line.departed.Goals as goal

pub returns-clause-departed : goal.returns-clause-departed
returns-clause-departed c =
    c.last_departed.ensures ∙ ap (last_taken []) c.as_slice.ensures.value
    ∙ last_any [] (fed_of c.self.inside.states.items).packets c.self.inside.states.items c.self.invariant.some
    ∙ ap (λ (l : LineParts). l.departed) c.self.view_is

pub returns-clause-settled : goal.returns-clause-settled
returns-clause-settled c = subst IsSettled c.self.view_is (line_settles c.self.inside c.self.invariant)
