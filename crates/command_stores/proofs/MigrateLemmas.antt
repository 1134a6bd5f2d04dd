-- The store that is migrated.
use Rattle.std.proofs.Common.{ℕ, List, Option, Result, Ok, Err, IfOk, IfErr, refl}
use Rattle.mm_base.specs.Disk.{DiskView}
use Rattle.mm_base.specs.Files.{Files}
use Rattle.record_store.specs.CutText.{SaysAs}
use Rattle.record_store.specs.declared.record.Record.{Record}
use Rattle.command_ends.specs.inside.Ends.{FinishesOnly}
use Rattle.command_ends.specs.Outputs.{writes}
use Rattle.command_ends.specs.Readings.{Reading, Done}
use Rattle.command_ends.specs.Stops.{IsInput, StopsReading}
use Rattle.command_ends.specs.declared.cause.Cause.{Cause}
use Rattle.command_ends.proofs.EndLemmas.{finishes_only}
use Rattle.store_files.specs.Stores.{reading_store_as}
use Rattle.store_files.proofs.StoreLemmas.{leads_store_as, store_stops_as}
use Rattle.command_stores.specs.Migrating.{GivesMigrate, MigrateJob, MigrateTask, migrate_inputs}
use Rattle.store_files.specs.Written.{store_file}

abbrev after_old : MigrateJob → List ℕ → Reading MigrateTask
after_old job store = Done (record { job = job; store = store })

pub old_stops : (job : MigrateJob) (old new : DiskView) (cause : Cause)
    → StopsReading (reading_store_as job.cut job.store Done) old new cause → StopsReading (migrate_inputs job) old new cause
old_stops job old new cause stopped = store_stops_as job.cut old new job.store cause (after_old job) stopped

pub old_found : (job : MigrateJob) (told : Option Files) (text : List ℕ) (rs : List Record)
    → IsInput told job.store text → SaysAs job.cut text (Ok rs)
    → FinishesOnly GivesMigrate (migrate_inputs job) told (writes (store_file job.out rs))
old_found job told text rs input says =
    finishes_only (migrate_inputs job) GivesMigrate (record { job = job; store = text }) told
    (writes (store_file job.out rs)) (leads_store_as job.cut told job.store (after_old job) text rs input says)
    (record { records = rs; says = says; output_is = refl })

pub old_finishes : (job : MigrateJob) (told : Option Files) (result : Result (List Record) Cause)
    → IfOk result (λ rs. ((text : List ℕ) × IsInput told job.store text × SaysAs job.cut text (Ok rs)))
    → IfOk result (λ rs. FinishesOnly GivesMigrate (migrate_inputs job) told (writes (store_file job.out rs)))
old_finishes job told (Ok rs) found = old_found job told found.0 rs found.1 found.2
old_finishes job told (Err cause) found = tt

pub old_stopped : (job : MigrateJob) (old new : DiskView) (result : Result (List Record) Cause)
    → IfErr result (λ cause. StopsReading (reading_store_as job.cut job.store Done) old new cause)
    → IfErr result (λ cause. StopsReading (migrate_inputs job) old new cause)
old_stopped job old new (Ok rs) stopped = tt
old_stopped job old new (Err cause) stopped = old_stops job old new cause stopped
