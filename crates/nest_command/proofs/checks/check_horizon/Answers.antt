use Rattle.nest_command.proofs.NestLemmas.{horizon_over, horizon_within}
use Rattle.nest_command.proofs.checks.check_horizon.Goals as goal

pub returns-then-horizon-gt-HOUR-clause-refused : goal.returns-then-horizon-gt-HOUR-clause-refused
returns-then-horizon-gt-HOUR-clause-refused c = horizon_over c.args.horizon c.limit.result c.if-horizon-gt-HOUR.true
    c.limit.ensures

pub returns-clause-refused : goal.returns-clause-refused
returns-clause-refused c = horizon_within c.args.horizon c.if-horizon-gt-HOUR.false
