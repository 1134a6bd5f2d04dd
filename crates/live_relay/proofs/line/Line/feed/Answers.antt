use Rattle.std.proofs.Common.{◌∙◌, ap, sym, subst, List}
use Rattle.shell_state.specs.States.{State}
use Rattle.live_relay.specs.Lines.{LineParts}
use Rattle.live_relay.specs.inside.Meeting.{Follow}
use Rattle.live_relay.specs.views.Meeting.{fed_of}
use Rattle.live_relay.proofs.Carrying.{meet_follow}
use Rattle.live_relay.proofs.line.Line.feed.Goals as goal

pub advance-requires-clause-follow : goal.advance-requires-clause-follow
advance-requires-clause-follow c =
    let h = c.self.inside.horizon in
    let states = c.self.inside.states.items in
    let going = ap (λ (l : LineParts). l.fed.end) c.self.view_is ∙ c.requires.follows.0 in
    subst (λ (l : List State). Follow h (fed_of l) l) (sym c.as_mut_slice.ensures.value)
    (meet_follow h (fed_of states) states going c.self.invariant.meet)
