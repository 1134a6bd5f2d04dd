use Rattle.command_stores.specs.inside.Values.{migrate_values}
use Rattle.command_stores.proofs.MigrateLemmas.{old_finishes, old_stopped}
use Rattle.command_stores.proofs.migrating.load_old.Goals as goal

pub returns-clause-found : goal.returns-clause-found
returns-clause-found g c = old_finishes (migrate_values c.args.job.now) _ c.load_store_as.result c.load_store_as.ensures.found

pub returns-clause-stopped : goal.returns-clause-stopped
returns-clause-stopped g c = old_stopped (migrate_values c.args.job.now) _ _ c.load_store_as.result
    c.load_store_as.ensures.stopped
