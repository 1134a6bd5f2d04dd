-- Traces and schedules that are read, and what stops them.
use Rattle.std.proofs.Common.{◌≡◌, ◌≢◌, inr, ℕ, suc, ◌+◌, ◌<◌, List, [], ◌∷◌, ◌++◌, Option, Some, None, Result, Ok}
use Rattle.std.proofs.Common.{Err, IfOk, MatchResult, length, map, take, drop, get_or, subst, refl, ap, sym, ◌∙◌}
use Rattle.std.proofs.Common.{arith}
use Rattle.std.proofs.lemmas.List.{take_more, drop_more, take-append-drop}
use Rattle.mm_base.specs.Disk.{DiskView, OnlyReads}
use Rattle.mm_base.specs.Files.{Files}
use Rattle.text_base.specs.Lines.{lines_of}
use Rattle.packet_record.specs.Schedules.{IsScheduleText, first_fault, number_of as schedule_number}
use Rattle.packet_record.specs.Schedules.{place_of as schedule_place}
use Rattle.packet_record.specs.declared.packet.Row.{Row}
use Rattle.packet_record.specs.declared.reading.ScheduleError.{ScheduleError}
use Rattle.packet_record.specs.declared.reading.ScheduleError.TheVariants as schedule_errors
use Rattle.trace_reader.specs.Reading.{number_of as trace_number, place_of as trace_place, trace_fault}
use Rattle.trace_reader.specs.Traces.{TraceView}
use Rattle.trace_reader.specs.declared.reading.TraceError.{TraceError}
use Rattle.trace_reader.specs.declared.reading.TraceError.TheVariants as trace_errors
use Rattle.command_ends.specs.Causes.{Text}
use Rattle.command_ends.specs.Readings.{Reading, Done}
use Rattle.command_ends.specs.inside.Readings.{Leads}
use Rattle.command_ends.specs.Stops.{IsInput, RefusesText, StopsReading}
use Rattle.command_ends.specs.declared.cause.Cause.{Cause}
use Rattle.command_ends.specs.declared.cause.Cause.TheVariants.{Refused}
use Rattle.command_ends.specs.declared.cause.Limit.TheVariants.{Lines, Packets}
use Rattle.command_ends.specs.declared.cause.Refusal.{Refusal}
use Rattle.command_ends.specs.declared.cause.Refusal.TheVariants.{BadInput, Limit}
use Rattle.command_ends.proofs.ReadingLemmas.{StopsAlike, alike_done, alike_text, leads_text, leads_then, stays}
use Rattle.command_ends.proofs.ReadingLemmas.{stops_alike, stops_later, text_stops_before}
use Rattle.command_ends.proofs.ReadingLemmas.{IsOfText, bad_input}
use Rattle.nest_command.specs.Inputs.{AreTraceTexts, reading_trace, reading_traces, schedule_refusal, schedule_refused}
use Rattle.nest_command.specs.Inputs.{trace_refusal, trace_refused}
use Rattle.nest_command.specs.Loaded.{HasSchedule, HasTrace, HaveTraces, NoTraces, MoreTraces}
use Rattle.trace_reader.specs.TraceIn.{trace_in}
use Rattle.nest_command.proofs.TraceLemmas.{trace_is}

-- a trace's text is refused for its error
pub trace_said : (name : Text) (text : List ℕ) (error : TraceError) (refusal : Refusal) (cause : Cause)
    → trace_fault text ≡ Some error → trace_refused name (Some error) ≡ Some refusal
    → cause ≡ Refused refusal → RefusesText (trace_refusal name text) cause
unfolding trace_refusal
trace_said name text error refusal cause h e is = inr (refusal, is, ap (trace_refused name) h ∙ e)

pub trace_bad : (name : Text) (error : TraceError) → error ≢ trace_errors.TooManyLines
    → error ≢ trace_errors.OutOfMemory
    → trace_refused name (Some error) ≡ Some (BadInput name (trace_number error) (trace_place error))
trace_bad name trace_errors.Empty a b = refl
trace_bad name (trace_errors.BadLine line) a b = refl
trace_bad name (trace_errors.Decreasing line) a b = refl
trace_bad name trace_errors.ZeroLength a b = refl
trace_bad name trace_errors.TooManyLines a b = absurd (a refl)
trace_bad name (trace_errors.BadBytes line) a b = refl
trace_bad name trace_errors.OutOfMemory a b = absurd (b refl)

pub trace_accepted : (name : Text) (text : List ℕ) → trace_fault text ≡ None → trace_refusal name text ≡ None
unfolding trace_refusal
trace_accepted name text e = ap (trace_refused name) e

trace_status : (name : Text) (fault : Option TraceError) (refusal : Refusal) → trace_refused name fault ≡ Some refusal
    → IsOfText refusal
trace_status name None refusal e = absurd (cc e)
trace_status name (Some trace_errors.Empty) refusal e = bad_input name 1 0 refusal e
trace_status name (Some (trace_errors.BadLine line)) refusal e = bad_input name 2 line refusal e
trace_status name (Some (trace_errors.Decreasing line)) refusal e = bad_input name 3 line refusal e
trace_status name (Some trace_errors.ZeroLength) refusal e = bad_input name 4 0 refusal e
trace_status name (Some trace_errors.TooManyLines) refusal e =
    let same : Limit (Lines name) ≡ refusal = cc e in
    subst (λ (r : Refusal). IsOfText r) same (record { not_words = λ h. omega arith; not_absent = λ h. omega arith })
trace_status name (Some (trace_errors.BadBytes line)) refusal e = bad_input name 6 line refusal e
trace_status name (Some trace_errors.OutOfMemory) refusal e = absurd (cc e)

pub trace_text : (name : Text) (text : List ℕ) (refusal : Refusal) → trace_refusal name text ≡ Some refusal
    → IsOfText refusal
unfolding trace_refusal
trace_text name text refusal e = trace_status name (trace_fault text) refusal e

-- a schedule's text is refused for its error
pub schedule_said : (name : Text) (text : List ℕ) (error : ScheduleError) (refusal : Refusal) (cause : Cause)
    → first_fault 1 0 (lines_of text) ≡ Some error
    → schedule_refused name (Some error) ≡ Some refusal → cause ≡ Refused refusal
    → RefusesText (schedule_refusal name text) cause
unfolding schedule_refusal
schedule_said name text error refusal cause h e is = inr (refusal, is, ap (schedule_refused name) h ∙ e)

pub schedule_bad : (name : Text) (error : ScheduleError) → error ≢ schedule_errors.TooMany
    → error ≢ schedule_errors.OutOfMemory
    → schedule_refused name (Some error) ≡ Some (BadInput name (schedule_number error) (schedule_place error))
schedule_bad name (schedule_errors.BadLine line) a b = refl
schedule_bad name (schedule_errors.BadSize line) a b = refl
schedule_bad name (schedule_errors.Decreasing line) a b = refl
schedule_bad name schedule_errors.TooMany a b = absurd (a refl)
schedule_bad name schedule_errors.OutOfMemory a b = absurd (b refl)

pub schedule_accepted : (name : Text) (text : List ℕ) → first_fault 1 0 (lines_of text) ≡ None
    → schedule_refusal name text ≡ None
unfolding schedule_refusal
schedule_accepted name text e = ap (schedule_refused name) e

schedule_status : (name : Text) (fault : Option ScheduleError) (refusal : Refusal)
    → schedule_refused name fault ≡ Some refusal → IsOfText refusal
schedule_status name None refusal e = absurd (cc e)
schedule_status name (Some (schedule_errors.BadLine line)) refusal e = bad_input name 1 line refusal e
schedule_status name (Some (schedule_errors.BadSize line)) refusal e = bad_input name 2 line refusal e
schedule_status name (Some (schedule_errors.Decreasing line)) refusal e = bad_input name 3 line refusal e
schedule_status name (Some schedule_errors.TooMany) refusal e =
    let same : Limit (Packets name) ≡ refusal = cc e in
    subst (λ (r : Refusal). IsOfText r) same (record { not_words = λ h. omega arith; not_absent = λ h. omega arith })
schedule_status name (Some schedule_errors.OutOfMemory) refusal e = absurd (cc e)

pub schedule_text : (name : Text) (text : List ℕ) (refusal : Refusal) → schedule_refusal name text ≡ Some refusal
    → IsOfText refusal
unfolding schedule_refusal
schedule_text name text refusal e = schedule_status name (first_fault 1 0 (lines_of text)) refusal e

pub schedule_found : (told : Option Files) (name : Text) (text : List ℕ) (result : Result (List Row) Cause)
    → IsInput told name text
    → IfOk result (λ rows. IsScheduleText text rows) → MatchResult result (λ _. schedule_refusal name text ≡ None)
    (λ cause. RefusesText (schedule_refusal name text) cause)
    → IfOk result (λ rows. ((t : List ℕ) × HasSchedule told name t rows))
schedule_found told name text (Ok rows) input are accepted =
    (text, record { input = input; accepted = accepted; rows_are = are })
schedule_found told name text (Err cause) input are accepted = tt

-- traces that were read lead on
pub leads_traces : {A : Type 0} {told : Option Files} {names : List Text} {texts : List (List ℕ)}
    {traces : List TraceView} (next : List (List ℕ) → Reading A)
    → HaveTraces told names texts traces → Leads told (reading_traces names next) (next texts)
leads_traces next NoTraces = stays (next [])
leads_traces {told = told} next (MoreTraces name names text texts trace traces has more) =
    leads_then (leads_text told (trace_refusal name) name (λ t. reading_traces names (λ ts. next (t ∷ ts))) text
    has.input has.accepted)
    (leads_traces (λ ts. next (text ∷ ts)) more)

leads_before : {A : Type 0} {told : Option Files} {names : List Text} {texts : List (List ℕ)}
    {traces : List TraceView} (later : List Text) (next : List (List ℕ) → Reading A)
    → HaveTraces told names texts traces
    → Leads told (reading_traces (names ++ later) next) (reading_traces later (λ more. next (texts ++ more)))
leads_before later next NoTraces = stays (reading_traces later next)
leads_before {told = told} later next (MoreTraces name names text texts trace traces has more) =
    leads_then (leads_text told (trace_refusal name) name (λ t. reading_traces (names ++ later) (λ ts. next (t ∷ ts)))
    text has.input has.accepted)
    (leads_before later (λ ts. next (text ∷ ts)) more)

have_push : {told : Option Files} {names : List Text} {texts : List (List ℕ)} {traces : List TraceView} (name : Text)
    (text : List ℕ) (trace : TraceView)
    → HaveTraces told names texts traces → HasTrace told name text trace
    → HaveTraces told (names ++ name ∷ []) (texts ++ text ∷ []) (traces ++ trace ∷ [])
have_push name text trace NoTraces has = MoreTraces name [] text [] trace [] has NoTraces
have_push name text trace (MoreTraces n ns t ts r rs first more) has =
    MoreTraces n _ t _ r _ first (have_push name text trace more has)

pub have_count : {told : Option Files} {names : List Text} {texts : List (List ℕ)} {traces : List TraceView}
    → HaveTraces told names texts traces → length traces ≡ length names
have_count NoTraces = refl
have_count (MoreTraces n ns t ts r rs first more) = ap (λ k. suc k) (have_count more)

pub have_texts : {told : Option Files} {names : List Text} {texts : List (List ℕ)} {traces : List TraceView}
    → HaveTraces told names texts traces → AreTraceTexts texts traces
have_texts NoTraces = tt
have_texts (MoreTraces n ns t ts r rs first more) = (first.trace_is, have_texts more)

pub have_said : {told : Option Files} {names : List Text} {texts : List (List ℕ)} {traces : List TraceView}
    → HaveTraces told names texts traces → map trace_in texts ≡ traces
have_said NoTraces = refl
have_said (MoreTraces n ns t ts r rs first more) =
    let one : trace_in t ≡ r = trace_is t r first.trace_is in
    let rest : map trace_in ts ≡ rs = have_said more in
    λ j. one j ∷ rest j

-- one trace more was read
pub have_more : (told now : Option Files) (names : List Text) (i : ℕ) (name : Text) (texts : List (List ℕ))
    (traces all : List TraceView) (text : List ℕ) (trace : TraceView) → i < length names
    → name ≡ get_or names i name → HaveTraces told (take i names) texts traces → now ≡ told
    → HasTrace now name text trace → all ≡ traces ++ trace ∷ []
    → (ts : List (List ℕ)) × HaveTraces told (take (i + 1) names) ts all
have_more told now names i name texts traces all text trace lt read have stand is pushed =
    let here : HasTrace told name text trace = subst (λ (files : Option Files). HasTrace files name text trace) stand is in
    let more : HaveTraces told (take i names ++ name ∷ []) (texts ++ text ∷ []) (traces ++ trace ∷ []) =
    have_push name text trace have here in
    let next : take i names ++ name ∷ [] ≡ take (i + 1) names = ap (λ n. take i names ++ n ∷ []) read
    ∙ sym (take_more names i name lt) in (
      texts ++ text ∷ [],
      subst (λ (l : List TraceView). HaveTraces told (take (i + 1) names) (texts ++ text ∷ []) l) (sym pushed)
          (subst (λ (l : List Text). HaveTraces told l (texts ++ text ∷ []) (traces ++ trace ∷ [])) next more),
    )

-- reading stops at the trace at index `i`
pub traces_stop : (names : List Text) (i : ℕ) (name : Text) (old mid new : DiskView)
    (texts : List (List ℕ)) (traces : List TraceView) (cause : Cause) → i < length names
    → name ≡ get_or names i name → HaveTraces old.files (take i names) texts traces → OnlyReads old mid
    → StopsReading (reading_trace name Done) mid new cause → StopsReading (reading_traces names Done) old new cause
traces_stop names i name old mid new texts traces cause lt read have reads stopped =
    let order : names ≡ take i names ++ name ∷ drop (i + 1) names =
    sym (take-append-drop i names) ∙ ap (λ l. take i names ++ l) (drop_more names i name lt
    ∙ ap (λ n. n ∷ drop (i + 1) names) (sym read)) in
    let rest : List ℕ → Reading (List (List ℕ)) =
    λ t. reading_traces (drop (i + 1) names) (λ more. Done (texts ++ (t ∷ more))) in
    let here : StopsReading (reading_trace name rest) mid new cause =
    text_stops_before mid new (trace_refusal name) name cause rest stopped in
    subst (λ (l : List Text). StopsReading (reading_traces l Done) old new cause) (sym order)
    (stops_later (reading_traces (take i names ++ name ∷ drop (i + 1) names) Done) (reading_trace name rest) old mid
    new cause
    (leads_before (name ∷ drop (i + 1) names) Done have) reads here)

traces_alike : {A B : Type 0} (told : Option Files) (names : List Text) (last : List (List ℕ) → A)
    (next : List (List ℕ) → Reading B)
    → StopsAlike told (reading_traces names (λ texts. Done (last texts))) (reading_traces names next)
traces_alike told [] last next = alike_done told (last []) (next [])
traces_alike told (name ∷ names) last next =
    alike_text told (trace_refusal name) name
    (λ text. reading_traces names (λ texts. Done (last (text ∷ texts))))
    (λ text. reading_traces names (λ texts. next (text ∷ texts)))
    (λ text. traces_alike told names (λ texts. last (text ∷ texts)) (λ texts. next (text ∷ texts)))

-- what stops the reading of traces stops it, whatever would have come next
pub traces_stop_before : {A : Type 0} (names : List Text) (old new : DiskView) (cause : Cause)
    (next : List (List ℕ) → Reading A) → StopsReading (reading_traces names Done) old new cause
    → StopsReading (reading_traces names next) old new cause
traces_stop_before names old new cause next stopped =
    stops_alike (reading_traces names Done) (reading_traces names next) old new cause
    (traces_alike old.files names (λ texts. texts) next) stopped
