use Rattle.std.proofs.Common.{ap, map, string_bytes}
use Rattle.std.specs.Result.{result_ok}
use Rattle.command_ends.specs.Works.{only}
use Rattle.command_ends.proofs.EndLemmas.{ends_job, ends_no_job, handed_early, keeps_all}
use Rattle.command_report.specs.Make.{GivesMake, make_reading, make_words}
use Rattle.command_report.specs.inside.Values.{make_values}
use Rattle.command_report.proofs.make.answer_make.Goals as goal

pub returns-in-Ok-clause-ends : goal.returns-in-Ok-clause-ends
returns-in-Ok-clause-ends g c = λ disk.
    ends_job (only GivesMake) make_values _ _ _ make_reading _ _ _ (ap result_ok c.in-Ok.is) c.in_ok-job.ensures
    (c.make.ensures.ends disk)

pub returns-in-Err-clause-ends : goal.returns-in-Err-clause-ends
returns-in-Err-clause-ends g c = λ disk.
    ends_no_job (only GivesMake) make_values _ _ make_reading _ _ (ap result_ok c.in-Err.is) c.in_ok-job.ensures c.usage.ensures

pub returns-in_err-job-clause-ends : goal.returns-in_err-job-clause-ends
returns-in_err-job-clause-ends g c = λ disk.
    handed_early (only GivesMake) (make_words (map string_bytes c.args.words.now)) _ _ _ tt c.from_residual.result
    c.from_residual.ensures.1 (keeps_all _)
