use Rattle.std.proofs.Common.{ap, map, string_bytes}
use Rattle.std.specs.Result.{result_ok}
use Rattle.command_ends.specs.Works.{only}
use Rattle.command_ends.proofs.AloneLemmas.{alone_job}
use Rattle.command_ends.proofs.EndLemmas.{ends_job, ends_no_job, handed_early, keeps_all}
use Rattle.command_stores.specs.Migrating.{GivesMigrate, migrate_reading, migrate_words}
use Rattle.command_stores.specs.inside.Values.{migrate_values}
use Rattle.command_stores.proofs.migrating.answer_migrate.Goals as goal

pub returns-in-Ok-clause-ends : goal.returns-in-Ok-clause-ends
returns-in-Ok-clause-ends g c = λ out.
    ends_job (only GivesMigrate) migrate_values _ _ _ migrate_reading _ _ _ (ap result_ok c.in-Ok.is) c.in_ok-job.ensures (c.migrate.ensures.ends out)

pub returns-in-Err-clause-ends : goal.returns-in-Err-clause-ends
returns-in-Err-clause-ends g c = λ out.
    ends_no_job (only GivesMigrate) migrate_values _ _ migrate_reading _ _ (ap result_ok c.in-Err.is) c.in_ok-job.ensures c.usage.ensures

pub returns-in_err-job-clause-ends : goal.returns-in_err-job-clause-ends
returns-in_err-job-clause-ends g c = λ out.
    handed_early (only GivesMigrate) (migrate_words (map string_bytes c.args.words.now)) _ _ _ tt c.from_residual.result
    c.from_residual.ensures.1 (keeps_all _)

pub returns-in-Ok-clause-alone : goal.returns-in-Ok-clause-alone
returns-in-Ok-clause-alone g c =
    alone_job migrate_values _ _ _ migrate_reading _ _ (ap result_ok c.in-Ok.is) c.in_ok-job.ensures c.migrate.ensures.alone
