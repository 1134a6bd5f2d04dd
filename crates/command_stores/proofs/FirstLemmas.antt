-- The words of these commands are refused before any file is read.
use Rattle.std.proofs.Common.{false, List, [], ◌∷◌}
use Rattle.command_ends.specs.Causes.{Text}
use Rattle.command_ends.specs.Names.{refused_names}
use Rattle.command_ends.proofs.ReadingLemmas.{RefusesWordsFirst, asked_first, unless_first}
use Rattle.store_files.proofs.StoreLemmas.{judges_store}
use Rattle.command_stores.specs.Matching.{MatchJob, match_job_of, match_reading, match_words}
use Rattle.command_stores.specs.Migrating.{MigrateJob, migrate_inputs, migrate_job_of, migrate_reading, migrate_words}
use Rattle.command_stores.specs.Recording.{RecordJob, record_inputs, record_job_of, record_reading, record_words}
use Rattle.command_stores.proofs.RecordLemmas.{judges_pairs}
use Rattle.command_stores.proofs.RequestLemmas.{judges_request}

record_first : (job : RecordJob) → RefusesWordsFirst (record_reading job)
record_first job =
    unless_first (refused_names (job.client ∷ job.server ∷ []) (job.out ∷ [])) (record_inputs job)
    (λ client server. (judges_pairs job client server, tt))

pub record_words_first : (words : List Text) → RefusesWordsFirst (record_words words)
record_words_first words = asked_first (record_job_of words) record_reading record_first

match_first : (job : MatchJob) → RefusesWordsFirst (match_reading job)
match_first job = λ store. (judges_store false job.store store, λ request. (judges_request job.request request, tt))

pub match_words_first : (words : List Text) → RefusesWordsFirst (match_words words)
match_words_first words = asked_first (match_job_of words) match_reading match_first

migrate_first : (job : MigrateJob) → RefusesWordsFirst (migrate_reading job)
migrate_first job =
    unless_first (refused_names (job.store ∷ []) (job.out ∷ [])) (migrate_inputs job)
    (λ store. (judges_store job.cut job.store store, tt))

pub migrate_words_first : (words : List Text) → RefusesWordsFirst (migrate_words words)
migrate_words_first words = asked_first (migrate_job_of words) migrate_reading migrate_first
