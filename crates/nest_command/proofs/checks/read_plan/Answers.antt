use Rattle.std.proofs.Common.{map, string_bytes, subst, sym}
use Rattle.std.proofs.lemmas.Result.{err_from_is_err_and}
use Rattle.command_ends.specs.declared.cause.Cause.{Cause}
use Rattle.nest_command.specs.NestReading.{StopsPlan, Taken, TooLong}
use Rattle.nest_command.proofs.NestRefusals.{nest_stops}
use Rattle.nest_command.proofs.checks.read_plan.Goals as goal

pub returns-in-Err-clause-plan : goal.returns-in-Err-clause-plan
returns-in-Err-clause-plan c =
    nest_stops (map string_bytes c.args.shells.now) (map (λ name. name.now) c.args.inputs.now)
    (map (λ name. name.now) c.args.outs.now) c.args.horizon c.in-Err.error c.nest_cause.result c.in-Err.ensures c.nest_cause.ensures

pub returns-in_err-check_names-clause-plan : goal.returns-in_err-check_names-clause-plan
returns-in_err-check_names-clause-plan c =
    let p = err_from_is_err_and c.from_residual.result c.from_residual.ensures.1 in
    let shells = map string_bytes c.args.shells.now in
    let inputs = map (λ name. name.now) c.args.inputs.now in
    let outs = map (λ name. name.now) c.args.outs.now in
    rw p.1 (subst (λ (k : Cause). StopsPlan shells inputs outs c.args.horizon k) (sym p.2)
    (Taken c.in-Ok.nest c.in-Ok.ensures c.in_err-check_names.ensures))

pub returns-in_err-check_horizon-clause-plan : goal.returns-in_err-check_horizon-clause-plan
returns-in_err-check_horizon-clause-plan c =
    let p = err_from_is_err_and c.from_residual-in_err-check_horizon.result
    c.from_residual-in_err-check_horizon.ensures.1 in
    let shells = map string_bytes c.args.shells.now in
    let inputs = map (λ name. name.now) c.args.inputs.now in
    let outs = map (λ name. name.now) c.args.outs.now in
    rw p.1 (subst (λ (k : Cause). StopsPlan shells inputs outs c.args.horizon k) (sym p.2)
    (TooLong c.in-Ok.nest c.in-Ok.ensures c.in_ok-check_names.ensures c.in_err-check_horizon.ensures.refused))
