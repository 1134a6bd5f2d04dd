use Rattle.std.proofs.Common.{◌∙◌, sym, lit≤}
use Rattle.live_relay.proofs.Carrying.{on_false, on_true, take_fed_same, take_fewer, take_grows, take_same, take_waits}
use Rattle.live_relay.proofs.passing.take_once.Goals as goal

pub returns-clause-same : goal.returns-clause-same
returns-clause-same c = take_same c.args.state.now c.take.new.self 256 c.in_ok-taken.ensures.ok.1

pub returns-clause-fed : goal.returns-clause-fed
returns-clause-fed c = take_fed_same c.args.state.now c.take.new.self 256 c.in_ok-taken.ensures.ok.1

pub returns-clause-grows : goal.returns-clause-grows
returns-clause-grows c = take_grows c.args.state.now c.take.new.self 256 c.stands.ensures.stands c.requires.going
    c.requires.whole c.in_ok-taken.ensures.ok.1

pub returns-clause-more : goal.returns-clause-more
returns-clause-more c = on_true _ c.goes_on.result (λ e. take_fewer c.args.state.now c.take.new.self c.in_ok-taken.taken
    256 c.stands.ensures.stands c.requires.going (lit≤ tt) c.in_ok-taken.ensures.ok.0 c.in_ok-taken.ensures.ok.1
    (sym c.goes_on.ensures ∙ e))

pub returns-clause-done : goal.returns-clause-done
returns-clause-done c = on_false _ c.goes_on.result (λ e. take_waits c.args.state.now c.take.new.self
    c.in_ok-taken.taken 256 c.in_ok-taken.ensures.ok.0 c.in_ok-taken.ensures.ok.1 c.in_ok-taken.ensures.causes
    (sym c.goes_on.ensures ∙ e))
