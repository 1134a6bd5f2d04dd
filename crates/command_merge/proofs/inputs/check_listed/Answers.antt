use Rattle.std.proofs.Common.{◌≡◌, ◌++◌, map, option_map, ap, ◌∙◌}
use Rattle.nest_command.specs.NestReading.{packet_outputs}
use Rattle.nest_command.proofs.NestLemmas.{names_checked}
use Rattle.command_merge.proofs.inputs.check_listed.Goals as goal

pub returns : goal.returns
returns c = λ list same.
    let outs = packet_outputs (option_map (λ s. s.now) c.args.job.now.table) c.args.job.now.out.now in
    let same_outs : map (λ name. name.now) c.as_slice.result.now ≡ outs =
    ap (map (λ name. name.now)) c.as_slice.ensures.value ∙ c.in_ok-outs.ensures in
    let outputs : map (λ name. name.now) c.as_slice-2.result.now ≡ c.args.nest.now.logs ++ outs =
    ap (map (λ name. name.now)) c.as_slice-2.ensures.value ∙ c.in_ok-outputs.ensures
    ∙ ap (λ l. c.logs.result.now ++ l) same_outs ∙ ap (λ l. l ++ outs) c.logs.ensures.logs in
    names_checked c.check_outputs.result same outputs c.check_outputs.ensures
