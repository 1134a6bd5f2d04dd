use Rattle.std.proofs.Common.{◌∙◌, ap, sym, subst, List}
use Rattle.shell_state.specs.States.{State}
use Rattle.nest_spec.specs.Passed.{HavePassed}
use Rattle.live_relay.specs.Lines.{LineParts}
use Rattle.live_relay.proofs.Lining.{line_passes}
use Rattle.live_relay.proofs.line.Line.states.Goals as goal

pub returns : goal.returns
returns c =
    let ended = ap (λ (l : LineParts). l.fed.end) c.self.view_is ∙ c.requires in
    subst (λ (l : List State). HavePassed c.args.self.now.horizon c.args.self.now.specs c.args.self.now.fed.packets l)
    (sym c.as_slice.ensures.value)
    (subst (λ (l : LineParts). HavePassed l.horizon l.specs l.fed.packets c.self.inside.states.items) c.self.view_is
    (line_passes c.self.inside c.self.invariant ended))
