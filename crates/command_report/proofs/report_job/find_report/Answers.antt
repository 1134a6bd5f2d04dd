use Rattle.std.proofs.Common.{◌∙◌, ap, map, option_map, string_bytes}
use Rattle.option_words.specs.Commands.{table_of}
use Rattle.option_words.specs.declared.command.Command.TheVariants.{Report}
use Rattle.option_words.proofs.WordLemmas.{job_of_given, no_job_of_given}
use Rattle.command_report.specs.Report.{report_from, report_job_of}
use Rattle.command_report.proofs.report_job.find_report.Goals as goal

pub returns-in-Some : goal.returns-in-Some
unfolding report_job_of
returns-in-Some c =
    job_of_given report_from (λ v. map (λ o. option_map (λ s. s.now) o) v.items) (table_of Report)
    (map string_bytes c.args.words.now) _ c.in-Some.given _ c.in-Some.is c.in_ok-given.ensures
    (c.report_job.ensures ∙ ap (λ l. report_from (map (λ o. option_map (λ s. s.now) o) l)) c.deref.ensures.value)

pub returns-in-None : goal.returns-in-None
unfolding report_job_of
returns-in-None c =
    no_job_of_given report_from (λ v. map (λ o. option_map (λ s. s.now) o) v.items) (table_of Report)
    (map string_bytes c.args.words.now) _ c.in-None.is c.in_ok-given.ensures
