use Rattle.std.proofs.Common.{ap, ◌∙◌}
use Rattle.shell_state.specs.States.{State}
use Rattle.shell_state.proofs.Equations.{take_horizon}
use Rattle.nest_tests.proofs.states.take_one.Goals as goal

pub returns-in_err-answer : goal.returns-in_err-answer
returns-in_err-answer c = ap (λ (s : State). s.horizon) c.in_err-answer.ensures.err.0

pub returns : goal.returns
returns c = ap (λ (s : State). s.horizon) c.in_ok-answer.ensures.ok.1 ∙ take_horizon c.args.state.now c.args.most
