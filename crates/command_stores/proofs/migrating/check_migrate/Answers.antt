use Rattle.std.proofs.Common.{[], ◌∷◌}
use Rattle.command_stores.specs.Migrating.{migrate_inputs}
use Rattle.command_stores.specs.inside.Values.{migrate_values}
use Rattle.command_stores.proofs.NameLemmas.{names_accepted, names_read}
use Rattle.command_stores.proofs.migrating.check_migrate.Goals as goal

pub returns-clause-read : goal.returns-clause-read
returns-clause-read c =
    let job = migrate_values c.args.job.now in
    names_read (job.store ∷ []) job.out (migrate_inputs job) c.check_names.result c.check_names.ensures

pub returns-clause-accepts : goal.returns-clause-accepts
returns-clause-accepts c =
    let job = migrate_values c.args.job.now in
    names_accepted (job.store ∷ []) job.out (migrate_inputs job) c.check_names.result c.check_names.ensures
    (λ refusal is. cc is)
