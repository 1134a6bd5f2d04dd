use Rattle.std.proofs.Common.{ap, map, string_bytes}
use Rattle.std.specs.Result.{result_ok}
use Rattle.command_ends.specs.Works.{only}
use Rattle.command_ends.proofs.AloneLemmas.{alone_job, unrefused}
use Rattle.command_ends.proofs.EndLemmas.{ends_job, ends_no_job, handed_early, keeps_all}
use Rattle.command_stores.specs.Matching.{GivesMatch, match_reading, match_words}
use Rattle.command_stores.specs.inside.Values.{match_values}
use Rattle.command_stores.proofs.matching.answer_match.Goals as goal

pub returns-in-Ok-clause-ends : goal.returns-in-Ok-clause-ends
returns-in-Ok-clause-ends g c =
    ends_job (only GivesMatch) match_values _ _ _ match_reading _ _ _ (ap result_ok c.in-Ok.is) c.in_ok-job.ensures c.print_best.ensures.ends

pub returns-in-Err-clause-ends : goal.returns-in-Err-clause-ends
returns-in-Err-clause-ends g c =
    ends_no_job (only GivesMatch) match_values _ _ match_reading _ _ (ap result_ok c.in-Err.is) c.in_ok-job.ensures c.usage.ensures

pub returns-in_err-job-clause-ends : goal.returns-in_err-job-clause-ends
returns-in_err-job-clause-ends g c =
    handed_early (only GivesMatch) (match_words (map string_bytes c.args.words.now)) _ _ _ tt c.from_residual.result
    c.from_residual.ensures.1 (keeps_all _)

pub returns-in-Ok-clause-alone : goal.returns-in-Ok-clause-alone
returns-in-Ok-clause-alone g c =
    alone_job match_values _ _ _ match_reading _ _ (ap result_ok c.in-Ok.is) c.in_ok-job.ensures (unrefused _ _)
