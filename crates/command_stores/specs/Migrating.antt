-- What `migrate` is asked for, what it reads and refuses, and what it gives.
use Rattle.std.specs.Prelude.{◌≡◌, ℕ, Bool, is_some, List, [], ◌∷◌, Option, Some, None, Ok, option_and_then}
use Rattle.record_store.specs.CutText.{SaysAs}
use Rattle.record_store.specs.declared.record.Record.{Record}
use Rattle.option_words.specs.Commands.{table_of}
use Rattle.option_words.specs.Givens.{givens, ◌>>=◌}
use Rattle.option_words.specs.declared.command.Command.TheVariants.{Migrate}
use Rattle.command_ends.specs.Causes.{Text}
use Rattle.command_ends.specs.Names.{refused_names}
use Rattle.command_ends.specs.Outputs.{Output, writes}
use Rattle.command_ends.specs.Readings.{Reading, Done, asked, unless}
use Rattle.store_files.specs.Stores.{reading_store_as}
use Rattle.store_files.specs.Written.{store_file}

-- the names of the files of a store in either form, and of the same store in form 2, and whether the last record may be
-- cut
pub record MigrateJob : Type 0 where
  pub store : Text
  pub out : Text
  pub cut : Bool

-- The job of what is given of each option. `--store` and `--out` must be there.
unfoldable pub migrate_from : List (Option Text) → Option MigrateJob
migrate_from (store ∷ out ∷ cut ∷ []) = do
  given_store ← store
  given_out ← out
  Some (record { store = given_store; out = given_out; cut = is_some cut })
migrate_from _ = None

-- the job of the words after `migrate`
unfoldable pub migrate_job_of : List Text → Option MigrateJob
migrate_job_of words = option_and_then migrate_from (givens (table_of Migrate) words)

-- a job, and the text of the store
pub record MigrateTask : Type 0 where
  pub job : MigrateJob
  pub store : List ℕ

-- The text of the store in form 2 is written. With `--cut` a last record that the end cuts isn't part of it.
pub record GivesMigrate (task : MigrateTask) (output : Output) : Type 0 where
  pub records : List Record
  pub says : SaysAs task.job.cut task.store (Ok records)
  pub output_is : output ≡ writes (store_file task.job.out records)

-- the store is read
abbrev pub migrate_inputs : MigrateJob → Reading MigrateTask
migrate_inputs job = reading_store_as job.cut job.store (λ store. Done (record { job = job; store = store }))

-- an output that has the name of the input is refused, and then the store is read
abbrev pub migrate_reading : MigrateJob → Reading MigrateTask
migrate_reading job = unless (refused_names (job.store ∷ []) (job.out ∷ [])) (migrate_inputs job)

-- what `migrate` reads and refuses by the words after it
abbrev pub migrate_words : List Text → Reading MigrateTask
migrate_words words = asked (migrate_job_of words) migrate_reading
