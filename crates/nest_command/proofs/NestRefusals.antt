-- Where a command leads that refuses words of a nest, then names of files, then a horizon, and then traces with too many
-- opportunities.
use Rattle.std.proofs.Common.{◌≡◌, ◌≢◌, ◌⊎◌, inl, inr, ℕ, List, [], ◌∷◌, Option, Some, None, Result, Ok, Err}
use Rattle.std.proofs.Common.{map, subst, sym, arith, MatchResult, OnOk}
use Rattle.mm_base.specs.Disk.{DiskView}
use Rattle.mm_base.specs.Files.{Files}
use Rattle.trace_reader.specs.TraceIn.{trace_in}
use Rattle.trace_reader.specs.Traces.{TraceView}
use Rattle.nest_spec.specs.Words.{NestPlan, nest_of}
use Rattle.nest_spec.specs.declared.error.NestError.{NestError}
use Rattle.nest_spec.specs.declared.error.NestError.TheVariants as nest_errors
use Rattle.command_ends.specs.Causes.{Text, status_of_refusal}
use Rattle.command_ends.specs.Readings.{Reading, Refuses, unless}
use Rattle.command_ends.specs.Stops.{RefusesText, StopsReading, ReadingWants}
use Rattle.command_ends.specs.inside.Accepted.{AcceptsWords}
use Rattle.command_ends.specs.inside.Readings.{Leads}
use Rattle.command_ends.specs.inside.Stops.{ReadsOn}
use Rattle.command_ends.specs.declared.cause.Cause.{Cause}
use Rattle.command_ends.specs.declared.cause.Cause.TheVariants.{Refused, OutOfMemory}
use Rattle.command_ends.specs.declared.cause.Refusal.{Refusal}
use Rattle.command_ends.proofs.AloneLemmas.{unless_accepted}
use Rattle.command_ends.proofs.CountLemmas.{reads_none}
use Rattle.command_ends.proofs.ReadingLemmas.{RefusesNoWords, RefusesWordsFirst, found_stop, leads_then, leads_unless}
use Rattle.command_ends.proofs.ReadingLemmas.{none_first, stays, stops_here, stops_later, unless_first, unless_no_words}
use Rattle.nest_command.specs.Inputs.{reading_traces, trace_refusal}
use Rattle.nest_command.specs.Loaded.{HaveTraces}
use Rattle.nest_command.specs.NestReading.{IsPlan, StopsPlan, nest_refusal, plan_reading, refused_count}
use Rattle.nest_command.specs.NestReading.{refused_horizon, refused_outputs, with_nest, WantsMemory, NoNest, Taken}
use Rattle.nest_command.specs.NestReading.{TooLong}
use Rattle.nest_command.proofs.InputLemmas.{have_said, leads_traces, trace_text}
use Rattle.nest_command.proofs.NestLemmas.{count_text, horizon_text, names_there}

module _ {A : Type 0} (nest : Result NestPlan NestError) (taken : NestPlan → Option Refusal) (horizon : ℕ)
    (inputs : NestPlan → Reading A) where
  abbrev within_horizon : NestPlan → Reading A
  within_horizon plan = unless (refused_horizon horizon) (inputs plan)

  abbrev after_nest : NestPlan → Reading A
  after_nest plan = unless (taken plan) (within_horizon plan)

  abbrev nest_reading : Reading A
  nest_reading = with_nest nest after_nest

  nest_known : (told : Option Files) (plan : NestPlan) → nest ≡ Ok plan → Leads told nest_reading (after_nest plan)
  nest_known told plan e =
      subst (λ (r : Result NestPlan NestError). Leads told (with_nest r after_nest) (after_nest plan)) (sym e)
      (stays (after_nest plan))

  -- the words name no nest
  nest_refused : (error : NestError) (cause : Cause) → nest ≡ Err error → cause ≡ Refused (nest_refusal error)
      → (disk : DiskView) → StopsReading nest_reading disk disk cause
  nest_refused error cause e is disk =
      let there : status_of_refusal (nest_refusal error) ≢ 3 = λ h. omega arith in
      let leads : Leads disk.files nest_reading (Refuses (nest_refusal error)) =
      subst (λ (r : Result NestPlan NestError). Leads disk.files (with_nest r after_nest)
      (Refuses (nest_refusal error))) (sym e) (stays (Refuses (nest_refusal error))) in
      subst (λ (c : Cause). StopsReading nest_reading disk disk c) (sym is)
      (stops_here nest_reading disk disk (nest_refusal error) there leads)

  -- a name is taken
  names_stop : (plan : NestPlan) (cause : Cause) → nest ≡ Ok plan
      → ((refusal : Refusal) → taken plan ≡ Some refusal → status_of_refusal refusal ≢ 3)
      → RefusesText (taken plan) cause → (disk : DiskView) → StopsReading nest_reading disk disk cause
  names_stop plan cause e there refused disk =
      stops_later nest_reading (after_nest plan) disk disk disk cause (nest_known disk.files plan e) (reads_none disk)
      (found_stop (taken plan) (within_horizon plan) disk disk cause there refused)

  -- the horizon is past an hour
  horizon_stop : (plan : NestPlan) (cause : Cause) → nest ≡ Ok plan → taken plan ≡ None
      → RefusesText (refused_horizon horizon) cause → (disk : DiskView) → StopsReading nest_reading disk disk cause
  horizon_stop plan cause e free refused disk =
      stops_later nest_reading (within_horizon plan) disk disk disk cause
      (leads_then (nest_known disk.files plan e) (leads_unless disk.files (taken plan) (within_horizon plan) free))
      (reads_none disk)
      (found_stop (refused_horizon horizon) (inputs plan) disk disk cause
      (λ refusal h. (horizon_text horizon refusal h).not_absent) refused)

  -- nothing is refused
  words_read : (plan : NestPlan) → nest ≡ Ok plan → taken plan ≡ None → refused_horizon horizon ≡ None
      → (disk : DiskView) → Leads disk.files nest_reading (inputs plan)
  words_read plan e free within disk =
      leads_then (nest_known disk.files plan e)
      (leads_then (leads_unless disk.files (taken plan) (within_horizon plan) free)
      (leads_unless disk.files (refused_horizon horizon) (inputs plan) within))

  -- and the words are accepted
  words_accepted : (plan : NestPlan) → nest ≡ Ok plan → taken plan ≡ None → refused_horizon horizon ≡ None
      → AcceptsWords (inputs plan) → AcceptsWords nest_reading
  words_accepted plan known free within accepts =
      subst (λ (r : Result NestPlan NestError). AcceptsWords (with_nest r after_nest)) (sym known)
      (unless_accepted (taken plan) (within_horizon plan) free
      (unless_accepted (refused_horizon horizon) (inputs plan) within accepts))

module _ {A : Type 0} (shells inputs outs : List Text) (horizon : ℕ) (next : NestPlan → Reading A) where
  -- what a plan that was read, or the cause that there is none, says of the reading
  pub plan_read : (result : Result NestPlan Cause)
      → MatchResult result (IsPlan shells inputs outs horizon) (StopsPlan shells inputs outs horizon)
      → (disk : DiskView) → ReadsOn (plan_reading shells inputs outs horizon next) next disk disk result
  plan_read (Ok plan) is disk =
      words_read (nest_of shells) (refused_outputs inputs outs) horizon next plan is.named is.free is.within disk
  plan_read (Err cause) (WantsMemory is) disk = ReadingWants is
  plan_read (Err cause) (NoNest error e is) disk =
      nest_refused (nest_of shells) (refused_outputs inputs outs) horizon next error cause e is disk
  plan_read (Err cause) (Taken plan e refused) disk =
      names_stop (nest_of shells) (refused_outputs inputs outs) horizon next plan cause e (names_there _ _) refused disk
  plan_read (Err cause) (TooLong plan e free refused) disk =
      horizon_stop (nest_of shells) (refused_outputs inputs outs) horizon next plan cause e free refused disk

  -- the words of a plan are accepted
  pub plan_accepted : (result : Result NestPlan Cause)
      → MatchResult result (IsPlan shells inputs outs horizon) (StopsPlan shells inputs outs horizon)
      → ((plan : NestPlan) → AcceptsWords (next plan))
      → OnOk result (AcceptsWords (plan_reading shells inputs outs horizon next))
  plan_accepted (Ok plan) is accepts =
      words_accepted (nest_of shells) (refused_outputs inputs outs) horizon next plan is.named is.free is.within
      (accepts plan)
  plan_accepted (Err cause) stops accepts = tt

-- words that name no nest have no plan
pub nest_stops : (shells inputs outs : List Text) (horizon : ℕ) (error : NestError) (cause : Cause)
    → (error ≢ nest_errors.OutOfMemory → nest_of shells ≡ Err error)
    → (cause ≡ OutOfMemory) ⊎ ((error ≢ nest_errors.OutOfMemory) × (cause ≡ Refused (nest_refusal error)))
    → StopsPlan shells inputs outs horizon cause
nest_stops shells inputs outs horizon error cause e (inl is) = WantsMemory is
nest_stops shells inputs outs horizon error cause e (inr p) = NoNest error (e p.0) p.1

-- reading traces refuses no words
pub traces_no_words : {A : Type 0} (names : List Text) (next : List (List ℕ) → Reading A)
    → ((texts : List (List ℕ)) → RefusesNoWords (next texts)) → RefusesNoWords (reading_traces names next)
traces_no_words [] next none = none []
traces_no_words (name ∷ names) next none = λ text.
    unless_no_words (trace_refusal name text) (reading_traces names (λ texts. next (text ∷ texts)))
    (λ refusal e. (trace_text name text refusal e).not_words)
    (traces_no_words names (λ texts. next (text ∷ texts)) (λ texts. none (text ∷ texts)))

-- words are refused before any file is read
pub nest_first : {A : Type 0} (nest : Result NestPlan NestError) (taken : NestPlan → Option Refusal) (horizon : ℕ)
    (inputs : NestPlan → Reading A) → ((plan : NestPlan) → RefusesNoWords (inputs plan))
    → RefusesWordsFirst (with_nest nest (λ plan. unless (taken plan) (unless (refused_horizon horizon) (inputs plan))))
nest_first (Err error) taken horizon inputs none = tt
nest_first (Ok plan) taken horizon inputs none =
    unless_first (taken plan) (unless (refused_horizon horizon) (inputs plan))
    (unless_first (refused_horizon horizon) (inputs plan) (none_first (inputs plan) (none plan)))

-- there are too many opportunities
pub count_stop : {A : Type 0} (horizon : ℕ) (plan : NestPlan) (next : List (List ℕ) → Reading A) (old new : DiskView)
    (texts : List (List ℕ)) (traces : List TraceView) (cause : Cause) → HaveTraces old.files plan.traces texts traces
    → RefusesText (refused_count horizon plan.shells traces) cause
    → StopsReading (reading_traces plan.traces (λ texts. unless (refused_count horizon plan.shells (map trace_in texts))
    (next texts))) old new cause
count_stop {A} horizon plan next old new texts traces cause have refused =
    let after : List (List ℕ) → Reading A =
    λ texts. unless (refused_count horizon plan.shells (map trace_in texts)) (next texts) in
    let said : RefusesText (refused_count horizon plan.shells (map trace_in texts)) cause =
    subst (λ (l : List TraceView). RefusesText (refused_count horizon plan.shells l) cause) (sym (have_said have))
    refused in
    stops_later (reading_traces plan.traces after) (after texts) old old new cause (leads_traces after have)
    (reads_none old)
    (found_stop (refused_count horizon plan.shells (map trace_in texts)) (next texts) old new cause
    (λ refusal h. (count_text horizon plan.shells (map trace_in texts) refusal h).not_absent) said)
