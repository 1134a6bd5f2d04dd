use Rattle.std.proofs.Common.{ap, map, string_bytes}
use Rattle.std.specs.Result.{result_ok}
use Rattle.command_ends.proofs.AloneLemmas.{alone_job}
use Rattle.command_ends.proofs.EndLemmas.{ends_job, ends_no_job, handed_early, keeps_all}
use Rattle.command_relay.specs.Relaying.{relay_reading, relay_words, relay_work}
use Rattle.command_relay.specs.inside.Values.{relay_values}
use Rattle.command_relay.proofs.command.answer.Goals as goal

pub returns-in-Ok-clause-ends : goal.returns-in-Ok-clause-ends
returns-in-Ok-clause-ends g c =
    ends_job relay_work relay_values _ _ _ relay_reading _ _ _ (ap result_ok c.in-Ok.is) c.in_ok-job.ensures c.run.ensures.ends

pub returns-in-Err-clause-ends : goal.returns-in-Err-clause-ends
returns-in-Err-clause-ends g c =
    ends_no_job relay_work relay_values _ _ relay_reading _ _ (ap result_ok c.in-Err.is) c.in_ok-job.ensures c.usage.ensures

pub returns-in_err-job-clause-ends : goal.returns-in_err-job-clause-ends
returns-in_err-job-clause-ends g c =
    handed_early relay_work (relay_words (map string_bytes c.args.words.now)) _ _ _ _ c.from_residual.result
    c.from_residual.ensures.1 (keeps_all _)

pub returns-in-Ok-clause-alone : goal.returns-in-Ok-clause-alone
returns-in-Ok-clause-alone g c =
    alone_job relay_values _ _ _ relay_reading _ _ (ap result_ok c.in-Ok.is) c.in_ok-job.ensures c.run.ensures.alone
