use Rattle.std.proofs.Common.{◌≡◌, ◌∙◌, [], List, MatchResult, ap, map, subst}
use Rattle.command_ends.specs.Causes.{Text}
use Rattle.nest_command.specs.NestReading.{IsPlan, StopsPlan}
use Rattle.command_ends.proofs.AloneLemmas.{no_words_accepted}
use Rattle.command_relay.proofs.RelayLemmas.{inputs_no_words}
use Rattle.command_relay.specs.Relaying.{packet_names, relay_inputs}
use Rattle.command_relay.specs.inside.Values.{relay_values}
use Rattle.nest_command.proofs.NestRefusals.{plan_accepted, plan_read}
use Rattle.command_relay.proofs.inputs.read_words.Goals as goal

pub returns-clause-read : goal.returns-clause-read
returns-clause-read c =
    let job = relay_values c.args.job.now in
    let outs = packet_names job in
    let same : map (λ name. name.now) c.as_slice.result.now ≡ outs =
    ap (map (λ name. name.now)) c.as_slice.ensures.value ∙ c.in_ok-outs.ensures in
    let said : MatchResult c.read_plan.result (IsPlan job.shells [] outs job.horizon)
    (StopsPlan job.shells [] outs job.horizon) =
    subst (λ (l : List Text). MatchResult c.read_plan.result (IsPlan job.shells [] l job.horizon)
    (StopsPlan job.shells [] l job.horizon)) same c.read_plan.ensures.plan in
    plan_read job.shells [] outs job.horizon (relay_inputs job) c.read_plan.result said

pub returns-clause-accepts : goal.returns-clause-accepts
returns-clause-accepts c =
    let job = relay_values c.args.job.now in
    let outs = packet_names job in
    let same : map (λ name. name.now) c.as_slice.result.now ≡ outs =
    ap (map (λ name. name.now)) c.as_slice.ensures.value ∙ c.in_ok-outs.ensures in
    let said : MatchResult c.read_plan.result (IsPlan job.shells [] outs job.horizon)
    (StopsPlan job.shells [] outs job.horizon) =
    subst (λ (l : List Text). MatchResult c.read_plan.result (IsPlan job.shells [] l job.horizon)
    (StopsPlan job.shells [] l job.horizon)) same c.read_plan.ensures.plan in
    plan_accepted job.shells [] outs job.horizon (relay_inputs job) c.read_plan.result said
    (λ plan. no_words_accepted _ (inputs_no_words job plan))
