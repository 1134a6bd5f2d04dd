use Rattle.std.proofs.Common.{◌≡◌, ◌∙◌, List, MatchResult, ap, map, subst}
use Rattle.command_ends.specs.Causes.{Text}
use Rattle.nest_command.specs.NestReading.{IsPlan, StopsPlan, packet_outputs}
use Rattle.command_ends.proofs.AloneLemmas.{no_words_accepted}
use Rattle.command_run.proofs.FirstLemmas.{inputs_no_words}
use Rattle.command_run.specs.RunReading.{input_names, run_inputs}
use Rattle.command_run.specs.inside.Values.{run_values}
use Rattle.nest_command.proofs.NestRefusals.{plan_accepted, plan_read}
use Rattle.command_run.proofs.run.read_words.Goals as goal

pub returns-clause-read : goal.returns-clause-read
returns-clause-read c =
    let job = run_values c.args.job.now in
    let same : map (λ name. name.now) c.as_slice.result.now ≡ input_names job =
    ap (map (λ name. name.now)) c.as_slice.ensures.value ∙ c.in_ok-inputs.ensures in
    let outs = packet_outputs job.table job.out in
    let same_outs : map (λ name. name.now) c.as_slice-2.result.now ≡ outs =
    ap (map (λ name. name.now)) c.as_slice-2.ensures.value ∙ c.in_ok-outs.ensures in
    let said : MatchResult c.read_plan.result (IsPlan job.shells (input_names job) outs job.horizon)
    (StopsPlan job.shells (input_names job) outs job.horizon) =
    subst (λ (l : List Text). MatchResult c.read_plan.result (IsPlan job.shells (input_names job) l job.horizon)
    (StopsPlan job.shells (input_names job) l job.horizon)) same_outs
    (subst (λ (l : List Text). MatchResult c.read_plan.result
    (IsPlan job.shells l (map (λ name. name.now) c.as_slice-2.result.now) job.horizon)
    (StopsPlan job.shells l (map (λ name. name.now) c.as_slice-2.result.now) job.horizon)) same
    c.read_plan.ensures.plan) in
    plan_read job.shells (input_names job) outs job.horizon (run_inputs job) c.read_plan.result said

pub returns-clause-accepts : goal.returns-clause-accepts
returns-clause-accepts c =
    let job = run_values c.args.job.now in
    let same : map (λ name. name.now) c.as_slice.result.now ≡ input_names job =
    ap (map (λ name. name.now)) c.as_slice.ensures.value ∙ c.in_ok-inputs.ensures in
    let outs = packet_outputs job.table job.out in
    let same_outs : map (λ name. name.now) c.as_slice-2.result.now ≡ outs =
    ap (map (λ name. name.now)) c.as_slice-2.ensures.value ∙ c.in_ok-outs.ensures in
    let said : MatchResult c.read_plan.result (IsPlan job.shells (input_names job) outs job.horizon)
    (StopsPlan job.shells (input_names job) outs job.horizon) =
    subst (λ (l : List Text). MatchResult c.read_plan.result (IsPlan job.shells (input_names job) l job.horizon)
    (StopsPlan job.shells (input_names job) l job.horizon)) same_outs
    (subst (λ (l : List Text). MatchResult c.read_plan.result
    (IsPlan job.shells l (map (λ name. name.now) c.as_slice-2.result.now) job.horizon)
    (StopsPlan job.shells l (map (λ name. name.now) c.as_slice-2.result.now) job.horizon)) same
    c.read_plan.ensures.plan) in
    plan_accepted job.shells (input_names job) outs job.horizon (run_inputs job) c.read_plan.result said
    (λ plan. no_words_accepted _ (inputs_no_words job plan))
