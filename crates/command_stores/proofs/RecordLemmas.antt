-- The two streams of a recording.
use Rattle.std.proofs.Common.{◌≡◌, ◌≢◌, ◌∙◌, inr, ℕ, List, Option, Some, None, Ok, Err, refl, sym, ap, subst, arith}
use Rattle.mm_base.specs.Disk.{DiskView, OnlyReads}
use Rattle.mm_base.specs.Files.{Files}
use Rattle.record_store.specs.Pairs.{Pairs}
use Rattle.record_store.specs.Refusals.{pair_number, request_named}
use Rattle.record_store.specs.declared.record.Record.{Record}
use Rattle.record_store.specs.declared.errors.PairError.{PairError}
use Rattle.record_store.specs.declared.errors.PairError.TheVariants as errors
use Rattle.record_store.proofs.PairLaws.{one_pairing}
use Rattle.command_ends.specs.Causes.{status_of_refusal}
use Rattle.command_ends.specs.inside.Ends.{FinishesOnly}
use Rattle.command_ends.specs.Outputs.{writes}
use Rattle.command_ends.specs.Readings.{Reading, Done, Reads, Judges}
use Rattle.command_ends.specs.inside.Readings.{Leads}
use Rattle.command_ends.specs.Stops.{IsInput, StopsAtFile, StopsReading}
use Rattle.command_ends.specs.inside.Stops.{RefusesBy}
use Rattle.command_ends.specs.declared.cause.Cause.{Cause}
use Rattle.command_ends.specs.declared.cause.Cause.TheVariants.{Refused}
use Rattle.command_ends.specs.declared.cause.Refusal.{Refusal}
use Rattle.command_ends.specs.declared.cause.Refusal.TheVariants.{BadInput}
use Rattle.command_ends.proofs.CountLemmas.{reads_none}
use Rattle.command_ends.proofs.EndLemmas.{finishes_only}
use Rattle.command_ends.proofs.ReadingLemmas.{AreAlike, IsJudgement, judged_stop, leads_judged, leads_past, leads_then}
use Rattle.command_ends.proofs.ReadingLemmas.{stops_at, stops_later}
use Rattle.command_stores.specs.Recording.{GivesRecord, PairVerdict, RecordJob, RecordTask, record_inputs, stream_named}
use Rattle.store_files.specs.Written.{store_file}

pair_status : (job : RecordJob) (client server : List ℕ) (refusal : Refusal)
    → PairVerdict job client server (Some refusal) → status_of_refusal refusal ≡ 4
pair_status job client server refusal says = ap status_of_refusal says.3

pair_alike : (job : RecordJob) (client server : List ℕ) (a b : Option Refusal) → PairVerdict job client server a
    → PairVerdict job client server b → AreAlike a b
pair_alike job client server None None x y = tt
pair_alike job client server None (Some b) x y =
    let same : Ok x.0 ≡ Err y.0 =
    one_pairing client server job.port (Ok x.0) (Err y.0) x.1 y.2 (λ e. y.1 (cc e)) (λ e. cc e) in
    cc same
pair_alike job client server (Some a) None x y =
    let same : Ok y.0 ≡ Err x.0 =
    one_pairing client server job.port (Ok y.0) (Err x.0) y.1 x.2 (λ e. x.1 (cc e)) (λ e. cc e) in
    cc same
pair_alike job client server (Some a) (Some b) x y =
    pair_status job client server a x ∙ sym (pair_status job client server b y)

pub judges_pairs : (job : RecordJob) (client server : List ℕ) → IsJudgement (PairVerdict job client server)
judges_pairs job client server = record {
  no_words = λ refusal says two. let four = pair_status job client server refusal says in omega arith;
  alike = pair_alike job client server;
}

pub pairs_refused : (job : RecordJob) (client server : List ℕ) (error : PairError) (cause : Cause)
    → error ≢ errors.OutOfMemory → Pairs client server job.port (Err error)
    → cause ≡ Refused (BadInput (stream_named job error) (pair_number error) (request_named error))
    → RefusesBy (PairVerdict job client server) cause
pairs_refused job client server error cause other pairs is =
    inr (
      BadInput (stream_named job error) (pair_number error) (request_named error),
      is,
      (error, other, pairs, refl),
    )

-- what is read once the client's stream was
abbrev pub after_client : RecordJob → List ℕ → Reading RecordTask
after_client job client = Reads job.server (λ server.
    Judges (PairVerdict job client server) (Done (record { job = job; client = client; server = server })))

-- what is judged once the server's stream was read
abbrev after_server : RecordJob → List ℕ → List ℕ → Reading RecordTask
after_server job client server =
    Judges (PairVerdict job client server) (Done (record { job = job; client = client; server = server }))

pub client_stops : (job : RecordJob) (old new : DiskView) (cause : Cause) → StopsAtFile job.client old new cause
    → StopsReading (record_inputs job) old new cause
client_stops job old new cause stops = stops_at job.client (after_client job) old new cause stops

pub server_stops : (job : RecordJob) (old mid new : DiskView) (client : List ℕ) (cause : Cause)
    → IsInput old.files job.client client → OnlyReads old mid → StopsAtFile job.server mid new cause
    → StopsReading (record_inputs job) old new cause
server_stops job old mid new client cause input reads stops =
    stops_later (record_inputs job) (after_client job client) old mid new cause
    (leads_past old.files job.client (after_client job) client input) reads
    (stops_at job.server (after_server job client) mid new cause stops)

both_read : (job : RecordJob) (old mid : DiskView) (client server : List ℕ) → IsInput old.files job.client client
    → OnlyReads old mid → IsInput mid.files job.server server
    → Leads old.files (record_inputs job) (after_server job client server)
both_read job old mid client server one reads other =
    leads_then (leads_past old.files job.client (after_client job) client one)
    (leads_past old.files job.server (after_server job client) server
    (subst (λ (told : Option Files). IsInput told job.server server) reads.same_files other))

pub pairs_stop : (job : RecordJob) (old mid new : DiskView) (client server : List ℕ) (cause : Cause)
    → IsInput old.files job.client client → OnlyReads old mid → IsInput mid.files job.server server
    → RefusesBy (PairVerdict job client server) cause → StopsReading (record_inputs job) old new cause
pairs_stop job old mid new client server cause one reads other refused =
    stops_later (record_inputs job) (after_server job client server) old old new cause
    (both_read job old mid client server one reads other) (reads_none old)
    (judged_stop (PairVerdict job client server) (Done (record { job = job; client = client; server = server })) old new
    cause (λ refusal says three. let four = pair_status job client server refusal says in omega arith) refused)

pub pairs_found : (job : RecordJob) (old mid : DiskView) (client server : List ℕ) (rs : List Record)
    → IsInput old.files job.client client → OnlyReads old mid → IsInput mid.files job.server server
    → Pairs client server job.port (Ok rs)
    → FinishesOnly GivesRecord (record_inputs job) old.files (writes (store_file job.out rs))
pairs_found job old mid client server rs one reads other pairs =
    finishes_only (record_inputs job) GivesRecord (record { job = job; client = client; server = server }) old.files
    (writes (store_file job.out rs))
    (leads_then (both_read job old mid client server one reads other)
    (leads_judged old.files (PairVerdict job client server)
    (Done (record { job = job; client = client; server = server })) (rs, pairs)))
    (record { records = rs; pairs = pairs; output_is = refl })
