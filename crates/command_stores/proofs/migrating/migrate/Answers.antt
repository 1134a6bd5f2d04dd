use Rattle.command_ends.specs.Works.{only}
use Rattle.command_ends.proofs.AloneLemmas.{accepted_alone}
use Rattle.command_ends.proofs.CountLemmas.{reads_none}
use Rattle.command_ends.proofs.EndLemmas.{ends_written, finishes_later, handed_stopped, keeps, keeps_all}
use Rattle.command_ends.proofs.ReadingLemmas.{stops_later}
use Rattle.command_stores.specs.Migrating.{GivesMigrate, migrate_inputs, migrate_reading}
use Rattle.command_stores.specs.inside.Values.{migrate_values}
use Rattle.store_files.specs.Written.{store_file}
use Rattle.command_stores.proofs.migrating.migrate.Goals as goal

pub returns-in_err-check_migrate-clause-ends : goal.returns-in_err-check_migrate-clause-ends
returns-in_err-check_migrate-clause-ends g c = λ out.
    handed_stopped (only GivesMigrate) (migrate_reading (migrate_values c.args.job.now)) _ _ out tt _ c.from_residual.result
    c.from_residual.ensures.1 (keeps_all _) (c.in_err-check_migrate.ensures.read _)

pub returns-in_err-store-clause-ends : goal.returns-in_err-store-clause-ends
returns-in_err-store-clause-ends g c = λ out.
    let job = migrate_values c.args.job.now in
    let old = g.D.Disk.view c.args.disk.now in
    handed_stopped (only GivesMigrate) (migrate_reading job) _ _ out tt _ c.from_residual-in_err-store.result
    c.from_residual-in_err-store.ensures.1 (keeps c.load_old.ensures.only_reads)
    (stops_later (migrate_reading job) (migrate_inputs job) _ _ _ _ (c.in_ok-check_migrate.ensures.read old) (reads_none old)
    c.in_err-store.ensures.stopped)

pub returns-clause-ends : goal.returns-clause-ends
returns-clause-ends g c = λ out.
    let job = migrate_values c.args.job.now in
    let old = g.D.Disk.view c.args.disk.now in
    ends_written (only GivesMigrate) (migrate_reading job) old (g.D.Disk.view c.load_old.new.disk)
    (g.D.Disk.view c.write_store.new.disk) out tt tt
    (store_file job.out c.in_ok-store.store) c.write_store.result
    (finishes_later (c.in_ok-check_migrate.ensures.read old) c.in_ok-store.ensures.found)
    c.load_old.ensures.only_reads c.write_store.ensures.ok c.write_store.ensures.stopped

pub returns-in_err-store-clause-alone : goal.returns-in_err-store-clause-alone
returns-in_err-store-clause-alone g c =
    accepted_alone (migrate_reading (migrate_values c.args.job.now)) _ _ c.in_ok-check_migrate.ensures.accepts

pub returns-clause-alone : goal.returns-clause-alone
returns-clause-alone g c =
    accepted_alone (migrate_reading (migrate_values c.args.job.now)) _ _ c.in_ok-check_migrate.ensures.accepts
