-- The store and the request of a match.
use Rattle.std.proofs.Common.{ℕ, ◌<◌, ◌∷◌, List, Option, Ok, length, refl, ap, subst, arith}
use Rattle.std.proofs.Common.{length-append}
use Rattle.mm_base.specs.Disk.{DiskView, OnlyReads}
use Rattle.mm_base.specs.Files.{Files}
use Rattle.http_frame.specs.declared.messages.RequestHead.{RequestHead}
use Rattle.record_store.specs.StoreText.{StoreSays}
use Rattle.record_store.specs.declared.record.Record.{Record}
use Rattle.request_match.specs.Match.{IsBest}
use Rattle.command_ends.specs.inside.Ends.{FinishesOnly}
use Rattle.command_ends.specs.Outputs.{prints}
use Rattle.command_ends.specs.Readings.{Reading, Done}
use Rattle.command_ends.specs.Stops.{IsInput, StopsReading}
use Rattle.command_ends.specs.declared.cause.Cause.{Cause}
use Rattle.command_ends.proofs.EndLemmas.{finishes_only}
use Rattle.command_ends.proofs.ReadingLemmas.{judged_stops_before, leads_judged_text, leads_then, stops_later}
use Rattle.store_files.specs.Stores.{reading_store}
use Rattle.store_files.proofs.StoreLemmas.{leads_store, store_stops}
use Rattle.command_stores.specs.Matching.{GivesMatch, HasNumber, MatchJob, MatchTask, match_reading, number_text}
use Rattle.command_stores.specs.Requests.{IsOneRequest, RequestVerdict, reading_request}

-- the best record is one of the store's
pub best_inside : (head : RequestHead) (port : Option ℕ) (records : List Record) (place : ℕ)
    → IsBest head port records place → place < length records
best_inside head port records place b =
    omega (arith, b.place_is, ap length b.split, length-append b.before (b.best ∷ b.after))

abbrev after_request : MatchJob → List ℕ → List ℕ → Reading MatchTask
after_request job store request = Done (record { job = job; store = store; request = request })

abbrev after_store : MatchJob → List ℕ → Reading MatchTask
after_store job store = reading_request job.request (after_request job store)

pub store_stop : (job : MatchJob) (old new : DiskView) (cause : Cause)
    → StopsReading (reading_store job.store Done) old new cause → StopsReading (match_reading job) old new cause
store_stop job old new cause stopped = store_stops old new job.store cause (after_store job) stopped

pub request_stop : (job : MatchJob) (old mid new : DiskView) (store : List ℕ) (rs : List Record) (cause : Cause)
    → IsInput old.files job.store store → StoreSays store (Ok rs) → OnlyReads old mid
    → StopsReading (reading_request job.request Done) mid new cause → StopsReading (match_reading job) old new cause
request_stop job old mid new store rs cause input says reads stopped =
    stops_later (match_reading job) (after_store job store) old mid new cause
    (leads_store old.files job.store (after_store job) store rs input says) reads
    (judged_stops_before mid new (RequestVerdict job.request) job.request cause (after_request job store) stopped)

pub best_found : (job : MatchJob) (old mid : DiskView) (store request : List ℕ) (rs : List Record)
    (head : RequestHead) (number : Option ℕ)
    → IsInput old.files job.store store → StoreSays store (Ok rs) → OnlyReads old mid
    → IsInput mid.files job.request request → IsOneRequest request head → HasNumber head job.port rs number
    → FinishesOnly GivesMatch (match_reading job) old.files (prints (number_text number))
best_found job old mid store request rs head number input says reads asked asks best =
    finishes_only (match_reading job) GivesMatch (record { job = job; store = store; request = request }) old.files
    (prints (number_text number))
    (leads_then (leads_store old.files job.store (after_store job) store rs input says)
    (leads_judged_text old.files (RequestVerdict job.request) job.request (after_request job store) request
    (subst (λ (told : Option Files). IsInput told job.request request) reads.same_files asked) (head, asks)))
    (record { records = rs; says = says; head = head; asks = asks; number = number; best = best; output_is = refl })
