use Rattle.std.proofs.Common.{ap, ◌∙◌}
use Rattle.shell_state.specs.States.{State}
use Rattle.shell_state.proofs.Equations.{feed_horizon}
use Rattle.nest_tests.proofs.states.feed.Goals as goal

pub returns-in_err-feed : goal.returns-in_err-feed
returns-in_err-feed c = ap (λ (s : State). s.horizon) c.in_err-feed.ensures.err.0 ∙ c.requires

pub returns : goal.returns
returns c = ap (λ (s : State). s.horizon) c.in_ok-feed.ensures.ok ∙ feed_horizon c.args.state.now c.args.item
    ∙ c.requires
