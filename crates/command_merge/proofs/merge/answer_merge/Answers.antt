use Rattle.std.proofs.Common.{Option, Some, ap, map, string_bytes, sym, subst, ◌∙◌}
use Rattle.std.specs.Result.{result_ok}
use Rattle.std.specs.Option.{option_map}
use Rattle.std.proofs.lemmas.Result.{err_from_is_err_and}
use Rattle.command_ends.specs.Answers.{cause_in}
use Rattle.command_ends.specs.Ends.{Ends, offline}
use Rattle.command_ends.specs.Works.{only}
use Rattle.command_ends.specs.declared.cause.Cause.{Cause}
use Rattle.command_ends.proofs.EndLemmas.{ends_asked, ends_early, ends_unasked, keeps_all}
use Rattle.command_merge.specs.Merge.{GivesMerge, merge_of}
use Rattle.command_merge.specs.MergeReading.{merge_reading, merge_words}
use Rattle.command_merge.specs.inside.Values.{merge_values}
use Rattle.command_merge.specs.declared.job.MergeJob.{MergeJob}
use Rattle.command_ends.proofs.AloneLemmas.{asked_alone}
use Rattle.command_merge.proofs.merge.answer_merge.Goals as goal

pub returns-in-Ok-clause-ends : goal.returns-in-Ok-clause-ends
returns-in-Ok-clause-ends g c = λ out.
    ends_asked (only GivesMerge) (merge_of (map string_bytes c.args.words.now)) (merge_values c.in-Ok.job)
    merge_reading
    (offline (g.D.Disk.view c.args.disk.now) out) (offline (g.D.Disk.view c.merge.new.disk) out)
    (cause_in c.merge.result) (ap (λ (o : Option MergeJob). option_map merge_values o) (sym (ap result_ok c.in-Ok.is))
    ∙ c.in_ok-job.ensures) (c.merge.ensures.ends out)

pub returns-in-Err-clause-ends : goal.returns-in-Err-clause-ends
returns-in-Err-clause-ends g c = λ out.
    ends_unasked (only GivesMerge) (merge_of (map string_bytes c.args.words.now)) merge_reading
    (offline (g.D.Disk.view c.args.disk.now) out) c.usage.result
    (ap (λ (o : Option MergeJob). option_map merge_values o) (sym (ap result_ok c.in-Err.is)) ∙ c.in_ok-job.ensures) c.usage.ensures

pub returns-in_err-job-clause-ends : goal.returns-in_err-job-clause-ends
returns-in_err-job-clause-ends g c = λ out.
    let p = err_from_is_err_and c.from_residual.result c.from_residual.ensures.1 in
    let reading = merge_words (map string_bytes c.args.words.now) in
    let disk = g.D.Disk.view c.args.disk.now in
    rw p.1 (subst (λ (k : Cause). Ends (only GivesMerge) reading (offline disk out) (offline disk out) (Some k))
    (sym p.2)
    (ends_early (only GivesMerge) reading disk disk out tt (keeps_all disk)))

pub returns-in-Ok-clause-alone : goal.returns-in-Ok-clause-alone
returns-in-Ok-clause-alone g c =
    asked_alone (merge_of (map string_bytes c.args.words.now)) (merge_values c.in-Ok.job) merge_reading
    (g.D.Disk.view c.args.disk.now) (g.D.Disk.view c.merge.new.disk)
    (ap (λ (o : Option MergeJob). option_map merge_values o) (sym (ap result_ok c.in-Ok.is)) ∙ c.in_ok-job.ensures)
    c.merge.ensures.alone
