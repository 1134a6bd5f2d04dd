use Rattle.std.proofs.Common.{◌∙◌}
use Rattle.live_relay.proofs.Carrying.{at_true, same_on}
use Rattle.live_relay.proofs.Growing.{grows_on}
use Rattle.live_relay.proofs.passing.take_all.Goals as goal

pub takes-preserved : goal.takes-preserved
takes-preserved c =
    let i = c.takes.invariant in
    let e = c.in_ok-take_once.ensures in
    record {
      same = same_on c.args.state.now c.takes.state c.take_once.new.state i.same e.same;
      fed = e.fed ∙ i.fed;
      grows = grows_on c.args.state.now.taken c.takes.state.taken c.take_once.new.state.taken i.grows e.grows;
      going = (at_true _ c.in_ok-take_once.field-0 c.if-branch.true e.more).going;
    }

pub returns-clause-grows : goal.returns-clause-grows
returns-clause-grows c = grows_on c.args.state.now.taken c.takes.state.taken c.take_once.new.state.taken
    c.takes.invariant.grows c.in_ok-take_once.ensures.grows
