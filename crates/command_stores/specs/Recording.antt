-- What `record` is asked for, what it reads and refuses, and what it gives.
use Rattle.std.specs.Prelude.{◌≡◌, ◌≢◌, ℕ, List, [], ◌∷◌, Option, Some, None, Ok, Err, unwrap_or, option_and_then}
use Rattle.record_store.specs.Pairs.{Pairs}
use Rattle.record_store.specs.Refusals.{pair_number, request_named}
use Rattle.record_store.specs.declared.record.Record as stored
use Rattle.record_store.specs.declared.errors.PairError.{PairError}
use Rattle.record_store.specs.declared.errors.PairError.TheVariants as errors
use Rattle.option_words.specs.Commands.{table_of}
use Rattle.option_words.specs.Givens.{givens, ◌>>=◌}
use Rattle.option_words.specs.declared.command.Command.TheVariants.{Record}
use Rattle.command_ends.specs.Causes.{Text}
use Rattle.command_ends.specs.Names.{refused_names}
use Rattle.command_ends.specs.Outputs.{Output, writes}
use Rattle.command_ends.specs.Readings.{Reading, Done, Reads, Judges, asked, unless}
use Rattle.command_ends.specs.declared.cause.Refusal.{Refusal}
use Rattle.command_ends.specs.declared.cause.Refusal.TheVariants.{BadInput}
use Rattle.command_stores.specs.Ports.{given_port}
use Rattle.store_files.specs.Written.{store_file}

-- the names of the files of the two streams and of the store, and the port that each record gets, which is that of the
-- server, or 0 for any
pub record RecordJob : Type 0 where
  pub client : Text
  pub server : Text
  pub out : Text
  pub port : ℕ

-- The job of what is given of each option. `--client`, `--server` and `--out` must be there; the port is 0 if none is
-- given.
unfoldable pub record_from : List (Option Text) → Option RecordJob
record_from (client ∷ server ∷ out ∷ port ∷ []) = do
  number ← given_port port
  given_client ← client
  given_server ← server
  given_out ← out
  Some (record { client = given_client; server = given_server; out = given_out; port = unwrap_or number 0 })
record_from _ = None

-- the job of the words after `record`
unfoldable pub record_job_of : List Text → Option RecordJob
record_job_of words = option_and_then record_from (givens (table_of Record) words)

-- the file that a refusal of the streams names: the client's for a bad request, else the server's
abbrev pub stream_named : RecordJob → PairError → Text
stream_named job (errors.BadRequest n) = job.client
stream_named job (errors.BadResponse n) = job.server
stream_named job (errors.Unanswered n) = job.server
stream_named job errors.ExtraResponse = job.server
stream_named job errors.OutOfMemory = job.server

-- The streams pair, or they are refused. The refusal names a file, the number of the error, and the request that the
-- error names.
abbrev pub PairVerdict : RecordJob → List ℕ → List ℕ → Option Refusal → Type 0
PairVerdict job client server None = (rs : List stored.Record) × Pairs client server job.port (Ok rs)
PairVerdict job client server (Some refusal) =
    (e : PairError) × (e ≢ errors.OutOfMemory) × Pairs client server job.port (Err e)
    × (refusal ≡ BadInput (stream_named job e) (pair_number e) (request_named e))

-- a job, and the two streams
pub record RecordTask : Type 0 where
  pub job : RecordJob
  pub client : List ℕ
  pub server : List ℕ

-- The text of the store of the pairs is written.
pub record GivesRecord (task : RecordTask) (output : Output) : Type 0 where
  pub records : List stored.Record
  pub pairs : Pairs task.client task.server task.job.port (Ok records)
  pub output_is : output ≡ writes (store_file task.job.out records)

-- both streams are read, and must pair
abbrev pub record_inputs : RecordJob → Reading RecordTask
record_inputs job = Reads job.client (λ client. Reads job.server (λ server.
    Judges (PairVerdict job client server) (Done (record { job = job; client = client; server = server }))))

-- an output that has the name of an input is refused, and then the streams are read
abbrev pub record_reading : RecordJob → Reading RecordTask
record_reading job = unless (refused_names (job.client ∷ job.server ∷ []) (job.out ∷ [])) (record_inputs job)

-- what `record` reads and refuses by the words after it
abbrev pub record_words : List Text → Reading RecordTask
record_words words = asked (record_job_of words) record_reading
