-- Where a merge's words and files lead, and what stops it.
use Rattle.std.proofs.Common.{◌≡◌, ◌∙◌, ℕ, ◌+◌, List, [], ◌∷◌, ◌++◌, Option, Some, None, Result, Ok}
use Rattle.std.proofs.Common.{Err, map}
use Rattle.std.proofs.Common.{ap, length, subst, sym, Bool, true, false, is_some, option_map, refl}
use Rattle.mm_base.specs.Disk.{DiskView, OnlyReads}
use Rattle.mm_base.specs.Files.{Files}
use Rattle.text_base.specs.Lines.{lines_of}
use Rattle.packet_record.specs.declared.packet.Row.{Row}
use Rattle.trace_reader.specs.TraceIn.{trace_in}
use Rattle.trace_reader.specs.Traces.{TraceView}
use Rattle.nest_spec.specs.Nests.{NestParts, RunLists, result_of}
use Rattle.nest_spec.specs.Once.{HaveOneFate}
use Rattle.nest_spec.specs.Words.{NestPlan, nest_of}
use Rattle.nest_spec.specs.declared.error.NestError.{NestError}
use Rattle.sender_merge.specs.Merges.{merge_rows}
use Rattle.command_ends.specs.Causes.{Text}
use Rattle.command_ends.specs.inside.Ends.{FinishesOnly}
use Rattle.command_ends.specs.Outputs.{writes}
use Rattle.command_ends.specs.Readings.{Reading, Done, asked, unless}
use Rattle.command_ends.specs.inside.Readings.{Leads}
use Rattle.command_ends.specs.inside.Accepted.{AcceptsWords}
use Rattle.command_ends.specs.Stops.{IsInput, RefusesText, StopsAtFile, StopsReading}
use Rattle.command_ends.specs.declared.cause.Cause.{Cause}
use Rattle.command_ends.specs.declared.cause.Refusal.{Refusal}
use Rattle.command_ends.proofs.AloneLemmas.{unless_words}
use Rattle.command_ends.proofs.EndLemmas.{finishes_only}
use Rattle.command_ends.proofs.ReadingLemmas.{HasOneEnd, found_stop, leads_text, leads_then, leads_unless}
use Rattle.command_ends.proofs.ReadingLemmas.{stops_at, stops_later, text_stops}
use Rattle.nest_command.specs.Inputs.{reading_traces, schedule_refusal, trace_refusal}
use Rattle.nest_command.specs.NestReading.{packet_outputs, refused_count, refused_horizon, refused_outputs, with_nest}
use Rattle.nest_command.proofs.InputLemmas.{have_said, have_texts, leads_traces}
use Rattle.nest_command.proofs.NestLemmas.{count_text, count_within, names_there}
use Rattle.command_merge.specs.List.{list_refusal}
use Rattle.command_merge.specs.inside.Loaded.{AddsSchedules, HasSenders, HasTraces, HaveSchedules}
use Rattle.command_merge.specs.inside.Merged.{merged_in}
use Rattle.command_merge.specs.Merge.{GivesMerge, MergeJob, MergeTask, merge_files, merge_of, nest_for}
use Rattle.command_merge.specs.MergeReading.{merge_inputs, merge_reading, merge_words, reading_schedules}
use Rattle.command_merge.specs.MergeReading.{refused_listed}
use Rattle.command_merge.specs.MergeReading.{refused_total, schedule_inputs, sender_inputs}
use Rattle.command_merge.proofs.ListLemmas.{list_text}
use Rattle.command_merge.proofs.ScheduleLemmas.{leads_schedules, schedule_texts, schedules_stop}

-- what is read and refused once the nest is known
abbrev after_nest : MergeJob → NestPlan → Reading MergeTask
after_nest job plan = unless (refused_outputs (job.senders ∷ []) (packet_outputs job.table job.out) plan)
    (unless (refused_horizon job.horizon) (merge_inputs job plan))

-- what is read and refused once the traces were read
abbrev pub after_traces : MergeJob → NestPlan → List (List ℕ) → Reading MergeTask
after_traces job plan traces =
    unless (refused_count job.horizon plan.shells (map trace_in traces)) (sender_inputs job plan traces)

-- what is read and refused once the list was read
abbrev after_list : MergeJob → NestPlan → List (List ℕ) → List ℕ → Reading MergeTask
after_list job plan traces list = unless (refused_listed job plan list) (schedule_inputs job plan traces list)

-- the end, once all schedules were read
abbrev done_with : MergeJob → NestPlan → List (List ℕ) → List (List ℕ) → Reading MergeTask
done_with job plan traces schedules =
    Done (record { job = job; plan = plan; traces = traces; schedules = schedules })

senders_next : (told : Option Files) (job : MergeJob) (plan : NestPlan) (traces : List TraceView)
    (has : HasTraces told job plan traces) → Leads told (merge_inputs job plan) (sender_inputs job plan has.texts)
senders_next told job plan traces has =
    let few : refused_count job.horizon plan.shells (map trace_in has.texts) ≡ None =
    ap (refused_count job.horizon plan.shells) (have_said has.have)
    ∙ count_within job.horizon plan.shells traces has.few in
    leads_then (leads_traces (after_traces job plan) has.have)
    (leads_unless told (refused_count job.horizon plan.shells (map trace_in has.texts))
    (sender_inputs job plan has.texts) few)

-- the senders aren't read
pub senders_stop : (job : MergeJob) (plan : NestPlan) (traces : List TraceView) (old mid new : DiskView) (cause : Cause)
    → HasTraces old.files job plan traces → OnlyReads old mid
    → ((texts : List (List ℕ)) → StopsReading (sender_inputs job plan texts) mid new cause)
    → StopsReading (merge_inputs job plan) old new cause
senders_stop job plan traces old mid new cause has reads stopped =
    stops_later (merge_inputs job plan) (sender_inputs job plan has.texts) old mid new cause
    (senders_next old.files job plan traces has) reads (stopped has.texts)

-- the list isn't read, or its text isn't accepted
pub list_file_stop : (job : MergeJob) (plan : NestPlan) (old new : DiskView) (cause : Cause)
    → StopsAtFile job.senders old new cause → (texts : List (List ℕ))
    → StopsReading (sender_inputs job plan texts) old new cause
list_file_stop job plan old new cause stopped texts =
    stops_at job.senders (λ list. unless (list_refusal job.senders list) (after_list job plan texts list)) old new cause
    stopped

pub list_text_stop : (job : MergeJob) (plan : NestPlan) (list : List ℕ) (old new : DiskView) (cause : Cause)
    → IsInput old.files job.senders list → RefusesText (list_refusal job.senders list) cause
    → (texts : List (List ℕ)) → StopsReading (sender_inputs job plan texts) old new cause
list_text_stop job plan list old new cause input refused texts =
    text_stops old new (list_refusal job.senders) job.senders (after_list job plan texts) list cause input
    (λ refusal e. (list_text job.senders list refusal e).not_absent) refused

list_next : (told : Option Files) (job : MergeJob) (plan : NestPlan) (list : List ℕ) (texts : List (List ℕ))
    → IsInput told job.senders list → list_refusal job.senders list ≡ None
    → Leads told (sender_inputs job plan texts) (after_list job plan texts list)
list_next told job plan list texts input accepted =
    leads_text told (list_refusal job.senders) job.senders (after_list job plan texts) list input accepted

-- a name on a line of the list is taken
pub listed_stop : (job : MergeJob) (plan : NestPlan) (list : List ℕ) (old mid : DiskView) (cause : Cause)
    → IsInput old.files job.senders list → list_refusal job.senders list ≡ None → OnlyReads old mid
    → RefusesText (refused_listed job plan list) cause
    → (texts : List (List ℕ)) → StopsReading (sender_inputs job plan texts) old mid cause
listed_stop job plan list old mid cause input accepted reads refused texts =
    stops_later (sender_inputs job plan texts) (after_list job plan texts list) old mid mid cause
    (list_next old.files job plan list texts input accepted) reads
    (found_stop (refused_listed job plan list) (schedule_inputs job plan texts list) mid mid cause (names_there _ _)
    refused)

schedules_next : (told : Option Files) (job : MergeJob) (plan : NestPlan) (list : List ℕ) (texts : List (List ℕ))
    → IsInput told job.senders list → list_refusal job.senders list ≡ None → refused_listed job plan list ≡ None
    → Leads told (sender_inputs job plan texts) (schedule_inputs job plan texts list)
schedules_next told job plan list texts input accepted free =
    leads_then (list_next told job plan list texts input accepted)
    (leads_unless told (refused_listed job plan list) (schedule_inputs job plan texts list) free)

-- a schedule isn't read
pub listed_schedules_stop : (job : MergeJob) (plan : NestPlan) (list : List ℕ) (names : List Text)
    (old mid new : DiskView) (cause : Cause)
    → IsInput old.files job.senders list → list_refusal job.senders list ≡ None → refused_listed job plan list ≡ None
    → OnlyReads old mid → names ≡ lines_of list → StopsReading (reading_schedules 0 names Done) mid new cause
    → (texts : List (List ℕ)) → StopsReading (sender_inputs job plan texts) old new cause
listed_schedules_stop job plan list names old mid new cause input accepted free reads same stopped texts =
    stops_later (sender_inputs job plan texts) (schedule_inputs job plan texts list) old mid new cause
    (schedules_next old.files job plan list texts input accepted free) reads
    (schedules_stop 0 (lines_of list) mid new cause (done_with job plan texts)
    (subst (λ (l : List Text). StopsReading (reading_schedules 0 l Done) mid new cause) same stopped))

-- the list and the schedules were read
pub senders_found : (job : MergeJob) (plan : NestPlan) (list : List ℕ) (names : List Text)
    (schedules added : List (List Row)) (old mid : DiskView)
    → IsInput old.files job.senders list → list_refusal job.senders list ≡ None → refused_listed job plan list ≡ None
    → OnlyReads old mid → names ≡ lines_of list → schedules ≡ [] → AddsSchedules mid.files 0 names schedules added
    → HasSenders old.files job plan added
senders_found job plan list names schedules added old mid input accepted free reads same none adds =
    let all : added ≡ adds.more = adds.added ∙ ap (λ l. l ++ adds.more) none in record {
      list = list;
      input = input;
      accepted = accepted;
      free = free;
      texts = adds.texts;
      have = subst (λ (s : List (List Row)). HaveSchedules old.files 0 (lines_of list) adds.texts s) (sym all)
          (subst (λ (l : List Text). HaveSchedules old.files 0 l adds.texts adds.more) same
          (subst (λ (told : Option Files). HaveSchedules told 0 names adds.texts adds.more) reads.same_files
          adds.have));
    }

-- the files of a merge are those with the rows that were kept for its table, if there is one
kept_files : (table : Option Text) (out : Text) (kept rows : List Row) (run : RunLists)
    → (is_some table ≡ true → kept ≡ rows) → merge_files table out kept run ≡ merge_files table out rows run
kept_files None out kept rows run are = refl
kept_files (Some name) out kept rows run are = ap (λ (l : List Row). merge_files (Some name) out l run) (are refl)

-- the rows of senders that were kept, if there is a name for a table
pub kept_rows : {A : Type 0} (f : A → Text) (name : Option A) (keeps : Bool) (kept : Option (List (List Row)))
    (senders schedules : List (List Row)) → keeps ≡ is_some name → (keeps ≡ true → kept ≡ Some senders)
    → merge_rows senders ≡ merge_rows schedules
    → is_some (option_map f name) ≡ true → merged_in kept ≡ merge_rows schedules
kept_rows f None keeps kept senders schedules asked are same e = let no : false ≡ true = e in cc no
kept_rows f (Some name) keeps kept senders schedules asked are same e = ap merged_in (are asked) ∙ same

-- all was read
pub merge_finishes : (job : MergeJob) (plan : NestPlan) (nest : NestParts) (traces : List TraceView)
    (schedules : List (List Row)) (kept : List Row) (old mid : DiskView) (run : RunLists)
    → HasTraces old.files job plan traces
    → OnlyReads old mid → HasSenders mid.files job plan schedules → nest ≡ nest_for job plan traces
    → run ≡ result_of nest (merge_rows schedules) → HaveOneFate nest (merge_rows schedules)
    → (is_some job.table ≡ true → kept ≡ merge_rows schedules)
    → FinishesOnly GivesMerge (merge_inputs job plan) old.files (writes (merge_files job.table job.out kept run))
merge_finishes job plan nest traces schedules kept old mid run has reads now nest_is is once are =
    let senders : HasSenders old.files job plan schedules =
    subst (λ (told : Option Files). HasSenders told job plan schedules) reads.same_files now in
    let rows = merge_rows schedules in
    let same : run ≡ result_of (nest_for job plan traces) rows = is
    ∙ ap (λ (n : NestParts). result_of n rows) nest_is in
    let gives : GivesMerge (record { job = job; plan = plan; traces = has.texts; schedules = senders.texts })
    (writes (merge_files job.table job.out kept run)) = record {
      traces = traces;
      traces_are = have_texts has.have;
      schedules = schedules;
      schedules_are = schedule_texts senders.have;
      once = subst (λ (n : NestParts). HaveOneFate n rows) nest_is once;
      output_is = ap writes (kept_files job.table job.out kept rows run are
          ∙ ap (λ (lists : RunLists). merge_files job.table job.out rows lists) same);
    } in
    finishes_only (merge_inputs job plan) GivesMerge _ old.files (writes (merge_files job.table job.out kept run))
    (leads_then (senders_next old.files job plan traces has)
    (leads_then (schedules_next old.files job plan senders.list has.texts senders.input senders.accepted senders.free)
    (leads_schedules (done_with job plan has.texts) senders.have))) gives

-- a reading with one end has one behind a refusal that may come
unless_one : {A : Type 0} (found : Option Refusal) (next : Reading A) → HasOneEnd next
    → HasOneEnd (unless found next)
unless_one None next one = one
unless_one (Some refusal) next one = tt

schedules_one : (before : ℕ) (names : List Text) (next : List (List ℕ) → Reading MergeTask)
    → ((texts : List (List ℕ)) → HasOneEnd (next texts)) → HasOneEnd (reading_schedules before names next)
schedules_one before [] next one = one []
schedules_one before (name ∷ names) next one = λ text.
    unless_one (schedule_refusal name text) _
    (unless_one (refused_total name (before + length (lines_of text))) _
    (schedules_one (before + length (lines_of text)) names (λ texts. next (text ∷ texts))
    (λ texts. one (text ∷ texts))))

senders_one : (job : MergeJob) (plan : NestPlan) (traces : List (List ℕ)) → HasOneEnd (sender_inputs job plan traces)
senders_one job plan traces = λ list.
    unless_one (list_refusal job.senders list) (after_list job plan traces list)
    (unless_one (refused_listed job plan list) (schedule_inputs job plan traces list)
    (schedules_one 0 (lines_of list) (done_with job plan traces) (λ texts. tt)))

traces_one : (names : List Text) (next : List (List ℕ) → Reading MergeTask)
    → ((texts : List (List ℕ)) → HasOneEnd (next texts)) → HasOneEnd (reading_traces names next)
traces_one [] next one = one []
traces_one (name ∷ names) next one = λ text.
    unless_one (trace_refusal name text) (reading_traces names (λ texts. next (text ∷ texts)))
    (traces_one names (λ texts. next (text ∷ texts)) (λ texts. one (text ∷ texts)))

nest_one : (job : MergeJob) (nest : Result NestPlan NestError) → HasOneEnd (with_nest nest (after_nest job))
nest_one job (Err error) = tt
nest_one job (Ok plan) =
    unless_one (refused_outputs (job.senders ∷ []) (packet_outputs job.table job.out) plan)
    (unless (refused_horizon job.horizon) (merge_inputs job plan))
    (unless_one (refused_horizon job.horizon) (merge_inputs job plan)
    (traces_one plan.traces (after_traces job plan) (λ traces.
    unless_one (refused_count job.horizon plan.shells (map trace_in traces)) (sender_inputs job plan traces)
    (senders_one job plan traces))))

words_one : (found : Option MergeJob) → HasOneEnd (asked found merge_reading)
words_one None = tt
words_one (Some job) = nest_one job (nest_of job.shells)

-- files that are told lead a merge to one end
pub merge_one : (words : List Text) → HasOneEnd (merge_words words)
merge_one words = words_one (merge_of words)

-- traces that are read refuse no words
traces_accepted : (names : List Text) (next : List (List ℕ) → Reading MergeTask) → AcceptsWords (next [])
    → AcceptsWords (reading_traces names next)
traces_accepted [] next accepts = accepts
traces_accepted (name ∷ names) next accepts = λ refusal is. cc is

pub inputs_accepted : (job : MergeJob) (plan : NestPlan) → AcceptsWords (merge_inputs job plan)
inputs_accepted job plan =
    traces_accepted plan.traces (after_traces job plan)
    (unless_words (refused_count job.horizon plan.shells []) (sender_inputs job plan [])
    (λ refusal e. (count_text job.horizon plan.shells [] refusal e).not_words) (λ refusal is. cc is))
