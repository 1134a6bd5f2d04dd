-- A store's text is accepted or refused, and a command goes on from it.
use Rattle.std.proofs.Common.{◌≡◌, ◌≢◌, ◌∙◌, inr, ℕ, Bool, false, List, Option, Some, None, Ok, Err, refl, sym, ap}
use Rattle.std.proofs.Common.{arith}
use Rattle.mm_base.specs.Disk.{DiskView}
use Rattle.mm_base.specs.Files.{Files}
use Rattle.record_store.specs.Refusals.{number_of, place_named}
use Rattle.record_store.specs.CutText.{SaysAs}
use Rattle.record_store.specs.StoreText.{StoreSays}
use Rattle.record_store.specs.declared.record.Record.{Record}
use Rattle.record_store.specs.declared.store_error.StoreError.{StoreError}
use Rattle.record_store.specs.declared.store_error.StoreError.TheVariants as errors
use Rattle.record_store.proofs.CutTextLaws.{outcome_as}
use Rattle.command_ends.specs.Causes.{Text, status_of_refusal}
use Rattle.command_ends.specs.Readings.{Reading, Done, Judges}
use Rattle.command_ends.specs.inside.Readings.{Leads}
use Rattle.command_ends.specs.Stops.{IsInput, StopsAtFile, StopsReading}
use Rattle.command_ends.specs.inside.Stops.{RefusesBy}
use Rattle.command_ends.specs.declared.cause.Cause.{Cause}
use Rattle.command_ends.specs.declared.cause.Cause.TheVariants.{Refused}
use Rattle.command_ends.specs.declared.cause.Refusal.{Refusal}
use Rattle.command_ends.specs.declared.cause.Refusal.TheVariants.{BadInput}
use Rattle.command_ends.proofs.ReadingLemmas.{AreAlike, IsJudgement, RefusesNoWords, judged_stops_before}
use Rattle.command_ends.proofs.ReadingLemmas.{judged_stopped, leads_judged_text, stops_at}
use Rattle.store_files.specs.Stores.{StoreVerdict, reading_store, reading_store_as}

status : (may : Bool) (name text : List ℕ) (refusal : Refusal) → StoreVerdict may name text (Some refusal)
    → status_of_refusal refusal ≡ 4
status may name text refusal says = ap status_of_refusal says.3

pub verdict_there : (may : Bool) (name text : List ℕ) (refusal : Refusal) → StoreVerdict may name text (Some refusal)
    → status_of_refusal refusal ≢ 3
verdict_there may name text refusal says three = let four = status may name text refusal says in omega arith

alike : (may : Bool) (name text : List ℕ) (a b : Option Refusal) → StoreVerdict may name text a
    → StoreVerdict may name text b → AreAlike a b
alike may name text None None x y = tt
alike may name text None (Some b) x y =
    let same : Ok x.0 ≡ Err y.0 =
    outcome_as may text (Ok x.0) (Err y.0) x.1 y.2 (λ e. y.1 (cc e)) (λ e. cc e) in
    cc same
alike may name text (Some a) None x y =
    let same : Ok y.0 ≡ Err x.0 =
    outcome_as may text (Ok y.0) (Err x.0) y.1 x.2 (λ e. x.1 (cc e)) (λ e. cc e) in
    cc same
alike may name text (Some a) (Some b) x y = status may name text a x ∙ sym (status may name text b y)

pub judges_store : (may : Bool) (name text : List ℕ) → IsJudgement (StoreVerdict may name text)
judges_store may name text = record {
  no_words = λ refusal says two. let four = status may name text refusal says in omega arith;
  alike = alike may name text;
}

-- no words are refused after a store is read, whose last record may be cut if `may`
pub store_no_words_as : {A : Type 0} (may : Bool) (name : Text) (next : List ℕ → Reading A)
    → ((text : List ℕ) → RefusesNoWords (next text)) → RefusesNoWords (reading_store_as may name next)
store_no_words_as may name next none = λ text. (judges_store may name text, none text)

-- no words are refused after a store is read
pub store_no_words : {A : Type 0} (name : Text) (next : List ℕ → Reading A)
    → ((text : List ℕ) → RefusesNoWords (next text)) → RefusesNoWords (reading_store name next)
store_no_words name next none = store_no_words_as false name next none

-- such a store that was read leads on
pub leads_store_as : {A : Type 0} (may : Bool) (told : Option Files) (name : Text) (next : List ℕ → Reading A)
    (text : List ℕ) (rs : List Record) → IsInput told name text → SaysAs may text (Ok rs)
    → Leads told (reading_store_as may name next) (next text)
leads_store_as may told name next text rs input says =
    leads_judged_text told (StoreVerdict may name) name next text input (rs, says)

-- a store that was read leads on
pub leads_store : {A : Type 0} (told : Option Files) (name : Text) (next : List ℕ → Reading A) (text : List ℕ)
    (rs : List Record) → IsInput told name text → StoreSays text (Ok rs)
    → Leads told (reading_store name next) (next text)
leads_store told name next text rs input says = leads_store_as false told name next text rs input says

-- what stops the reading of such a store stops a command that reads it
pub store_stops_as : {A : Type 0} (may : Bool) (old new : DiskView) (name : Text) (cause : Cause)
    (next : List ℕ → Reading A) → StopsReading (reading_store_as may name Done) old new cause
    → StopsReading (reading_store_as may name next) old new cause
store_stops_as may old new name cause next stopped =
    judged_stops_before old new (StoreVerdict may name) name cause next stopped

-- what stops the reading of a store stops a command that reads it
pub store_stops : {A : Type 0} (old new : DiskView) (name : Text) (cause : Cause) (next : List ℕ → Reading A)
    → StopsReading (reading_store name Done) old new cause → StopsReading (reading_store name next) old new cause
store_stops old new name cause next stopped = store_stops_as false old new name cause next stopped

-- a store's text is refused for its error
pub store_refused : (may : Bool) (name text : List ℕ) (error : StoreError) (cause : Cause) → error ≢ errors.OutOfMemory
    → SaysAs may text (Err error) → cause ≡ Refused (BadInput name (number_of error) (place_named error))
    → RefusesBy (StoreVerdict may name text) cause
store_refused may name text error cause other says is =
    inr (BadInput name (number_of error) (place_named error), is, (error, other, says, refl))

pub store_at_file : (may : Bool) (name : Text) (old new : DiskView) (cause : Cause) → StopsAtFile name old new cause
    → StopsReading (reading_store_as may name Done) old new cause
store_at_file may name old new cause stops =
    stops_at name (λ text. Judges (StoreVerdict may name text) (Done text)) old new cause stops

pub store_judged : (may : Bool) (name : Text) (old new : DiskView) (text : List ℕ) (cause : Cause)
    → IsInput old.files name text → RefusesBy (StoreVerdict may name text) cause
    → StopsReading (reading_store_as may name Done) old new cause
store_judged may name old new text cause input refused =
    judged_stopped {T = List ℕ} old new (StoreVerdict may name) name text (Err cause) input
    (verdict_there may name text) refused
