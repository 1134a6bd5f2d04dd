-- Where a run's words and files lead, and what stops it.
use Rattle.std.proofs.Common.{◌≡◌, ℕ, List, Option, Some, None, Result, Ok, Err, IfOk, IfErr}
use Rattle.std.proofs.Common.{map, subst, ap, ◌∙◌, Bool, true, is_some, option_map, refl, sym}
use Rattle.mm_base.specs.Disk.{DiskView, OnlyReads}
use Rattle.mm_base.specs.Files.{Files}
use Rattle.mm_base.proofs.Then.{OnlyReads-then}
use Rattle.packet_record.specs.declared.packet.Row.{Row}
use Rattle.nest_spec.specs.Nests.{NestParts, RunLists, result_of}
use Rattle.nest_spec.specs.Once.{HaveOneFate}
use Rattle.nest_spec.specs.Words.{NestPlan}
use Rattle.command_ends.specs.Causes.{Text}
use Rattle.command_ends.specs.inside.Ends.{FinishesOnly}
use Rattle.command_ends.specs.Outputs.{writes}
use Rattle.command_ends.specs.Readings.{Reading, Done, unless}
use Rattle.command_ends.specs.inside.Readings.{Leads}
use Rattle.command_ends.specs.Stops.{StopsReading, ReadingWants}
use Rattle.command_ends.specs.declared.cause.Cause.{Cause}
use Rattle.command_ends.proofs.EndLemmas.{finishes_only}
use Rattle.command_ends.proofs.ReadingLemmas.{leads_text, leads_then, leads_unless, stays}
use Rattle.command_ends.proofs.ReadingLemmas.{leads_past, stops_at, stops_later, text_stops_before}
use Rattle.nest_command.specs.Inputs.{reading_schedule, schedule_refusal}
use Rattle.command_run.specs.RunReading.{reading_order}
use Rattle.command_run.specs.RunReading.{run_inputs}
use Rattle.nest_command.specs.Loaded.{HasSchedule}
use Rattle.command_run.specs.inside.Loaded.{HasNest, HasOrder, HasRun, StopsAtOrder}
use Rattle.nest_command.specs.RunFiles.{run_files}
use Rattle.command_run.specs.Run.{GivesRun, RunJob, RunTask, nest_with}
use Rattle.nest_command.specs.NestReading.{refused_count}
use Rattle.trace_reader.specs.TraceIn.{trace_in}
use Rattle.nest_command.proofs.InputLemmas.{have_said, have_texts, leads_traces}
use Rattle.command_run.specs.inside.Passed.{passed_lists, passed_rows}
use Rattle.command_run.specs.declared.passing.Passed.{Passed}
use Rattle.nest_command.proofs.NestLemmas.{count_within}

-- what is read and refused once the traces were read
abbrev pub after_traces : RunJob → NestPlan → List (List ℕ) → Reading RunTask
after_traces job plan traces =
    unless (refused_count job.horizon plan.shells (map trace_in traces)) (
    reading_order job.order (
    reading_schedule job.schedule (λ schedule.
    Done (record { job = job; plan = plan; traces = traces; schedule = schedule }))))

-- the end, once the schedule was read
abbrev done_with : RunJob → NestPlan → List (List ℕ) → List ℕ → Reading RunTask
done_with job plan traces schedule =
    Done (record { job = job; plan = plan; traces = traces; schedule = schedule })

-- what is read once the order was
abbrev pub after_order : RunJob → NestPlan → List (List ℕ) → Reading RunTask
after_order job plan traces = reading_schedule job.schedule (done_with job plan traces)

order_next : (told : Option Files) (job : RunJob) (plan : NestPlan) (nest : NestParts)
    (has : HasNest told job plan nest)
    → Leads told (run_inputs job plan) (reading_order job.order (after_order job plan has.texts))
order_next told job plan nest has =
    let few : refused_count job.horizon plan.shells (map trace_in has.texts) ≡ None =
    ap (refused_count job.horizon plan.shells) (have_said has.have)
    ∙ count_within job.horizon plan.shells has.traces has.few in
    leads_then (leads_traces (after_traces job plan) has.have)
    (leads_unless told (refused_count job.horizon plan.shells (map trace_in has.texts))
    (reading_order job.order (after_order job plan has.texts)) few)

-- an order that was read leads on
order_read : {A : Type 0} (told : Option Files) (order : Option Text) (next : Reading A) → HasOrder told order
    → Leads told (reading_order order next) next
order_read told None next has = stays next
order_read told (Some name) next has = leads_past told name (λ bytes. next) has.0 has.1

order_stops : {A : Type 0} (order : Option Text) (next : Reading A) (old new : DiskView) (cause : Cause)
    → StopsAtOrder order old new cause → StopsReading (reading_order order next) old new cause
order_stops None next old new cause stopped = ReadingWants stopped
order_stops (Some name) next old new cause stopped = stops_at name (λ bytes. next) old new cause stopped

-- the order isn't read
pub order_stop : (job : RunJob) (plan : NestPlan) (nest : NestParts) (old mid new : DiskView) (cause : Cause)
    → HasNest old.files job plan nest → OnlyReads old mid → StopsAtOrder job.order mid new cause
    → StopsReading (run_inputs job plan) old new cause
order_stop job plan nest old mid new cause has reads stopped =
    stops_later (run_inputs job plan) (reading_order job.order (after_order job plan has.texts)) old mid new cause
    (order_next old.files job plan nest has) reads
    (order_stops job.order (after_order job plan has.texts) mid new cause stopped)

-- the traces and the order of a run were read, and nothing else changed
pub record HasInputs (old mid late : DiskView) (job : RunJob) (plan : NestPlan) (nest : NestParts) : Type 0 where
  pub has : HasNest old.files job plan nest
  pub first : OnlyReads old mid
  pub order : HasOrder mid.files job.order
  pub second : OnlyReads mid late

schedule_next : (job : RunJob) (plan : NestPlan) (nest : NestParts) (old mid late : DiskView)
    (read : HasInputs old mid late job plan nest)
    → Leads old.files (run_inputs job plan) (after_order job plan read.has.texts)
schedule_next job plan nest old mid late read =
    leads_then (order_next old.files job plan nest read.has)
    (order_read old.files job.order (after_order job plan read.has.texts)
    (subst (λ (told : Option Files). HasOrder told job.order) read.first.same_files read.order))

-- the schedule isn't read
pub schedule_stop : (job : RunJob) (plan : NestPlan) (nest : NestParts) (old mid late new : DiskView) (cause : Cause)
    → HasInputs old mid late job plan nest → StopsReading (reading_schedule job.schedule Done) late new cause
    → StopsReading (run_inputs job plan) old new cause
schedule_stop job plan nest old mid late new cause read stopped =
    stops_later (run_inputs job plan) (after_order job plan read.has.texts) old late new cause
    (schedule_next job plan nest old mid late read) (OnlyReads-then read.first read.second)
    (text_stops_before late new (schedule_refusal job.schedule) job.schedule cause
    (done_with job plan read.has.texts) stopped)

-- the files of a run are those with the rows that were kept for its table, if there is one
kept_files : (table : Option Text) (out : Text) (kept rows : List Row) (run : RunLists)
    → (is_some table ≡ true → kept ≡ rows) → run_files table out kept run ≡ run_files table out rows run
kept_files None out kept rows run are = refl
kept_files (Some name) out kept rows run are = ap (λ (l : List Row). run_files (Some name) out l run) (are refl)

-- all was read
pub run_finishes : (job : RunJob) (plan : NestPlan) (nest : NestParts) (old mid late : DiskView) (rows kept : List Row)
    (run : RunLists) → HasInputs old mid late job plan nest
    → ((text : List ℕ) × HasSchedule late.files job.schedule text rows) → run ≡ result_of nest rows
    → HaveOneFate nest rows → (is_some job.table ≡ true → kept ≡ rows)
    → FinishesOnly GivesRun (run_inputs job plan) old.files (writes (run_files job.table job.out kept run))
run_finishes job plan nest old mid late rows kept run read schedule is once are =
    let has = read.has in
    let reads = OnlyReads-then read.first read.second in
    let text = schedule.0 in
    let held : HasSchedule old.files job.schedule text rows =
    subst (λ (told : Option Files). HasSchedule told job.schedule text rows) reads.same_files schedule.1 in
    let same : run ≡ result_of (nest_with job plan has.traces) rows = is
    ∙ ap (λ (n : NestParts). result_of n rows) has.nest_is in
    let gives : GivesRun (record { job = job; plan = plan; traces = has.texts; schedule = text })
    (writes (run_files job.table job.out kept run)) = record {
      traces = has.traces;
      traces_are = have_texts has.have;
      rows = rows;
      rows_are = held.rows_are;
      once = subst (λ (n : NestParts). HaveOneFate n rows) has.nest_is once;
      output_is = ap writes (kept_files job.table job.out kept rows run are
          ∙ ap (λ (lists : RunLists). run_files job.table job.out rows lists) same);
    } in
    finishes_only (run_inputs job plan) GivesRun _ old.files (writes (run_files job.table job.out kept run))
    (leads_then (schedule_next job plan nest old mid late read)
    (leads_text old.files (schedule_refusal job.schedule) job.schedule (done_with job plan has.texts) text
    held.input held.accepted)) gives

-- all was read, and the packets passed
pub passed_finishes : (job : RunJob) (plan : NestPlan) (nest : NestParts) (old mid late : DiskView) (keeps : Bool)
    (result : Result Passed Cause) → HasInputs old mid late job plan nest → is_some job.table ≡ keeps
    → IfOk result (λ run. HasRun late.files job.schedule nest keeps (passed_rows run) (passed_lists run))
    → IfOk result (λ run. FinishesOnly GivesRun (run_inputs job plan) old.files
    (writes (run_files job.table job.out (passed_rows run) (passed_lists run))))
passed_finishes job plan nest old mid late keeps (Ok run) read asked has =
    run_finishes job plan nest old mid late has.rows (passed_rows run) (passed_lists run) read
    (has.text, has.schedule) has.result_is has.once (λ e. has.kept_are (sym asked ∙ e))
passed_finishes job plan nest old mid late keeps (Err cause) read asked has = tt

-- whether there is a name, by whichever form of it
pub some_as : {A : Type 0} (f : A → Text) (name : Option A) → is_some (option_map f name) ≡ is_some name
some_as f None = refl
some_as f (Some name) = refl

pub passed_stops : {T : Type 0} (job : RunJob) (plan : NestPlan) (nest : NestParts) (old mid late new : DiskView)
    (result : Result T Cause) → HasInputs old mid late job plan nest
    → IfErr result (λ cause. StopsReading (reading_schedule job.schedule Done) late new cause)
    → IfErr result (λ cause. StopsReading (run_inputs job plan) old new cause)
passed_stops job plan nest old mid late new (Ok run) read stopped = tt
passed_stops job plan nest old mid late new (Err cause) read stopped =
    schedule_stop job plan nest old mid late new cause read stopped
