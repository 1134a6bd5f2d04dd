-- How a relay of which an output can't be written ends.
use Rattle.std.proofs.Common.{◌≡◌, ◌∙◌, ap, inl, inr, sym, subst, List, Option, Some, None, option_map, Result, Ok, Err}
use Rattle.std.proofs.Common.{IsErrAnd, refl}
use Rattle.mm_base.specs.Disk.{DiskView}
use Rattle.command_ends.specs.Answers.{cause_in}
use Rattle.command_ends.specs.Causes.{Text}
use Rattle.command_ends.specs.Readings.{AtTask, Reaches, Reading, asked}
use Rattle.command_ends.specs.Stops.{StopsReading, ReadingRefused}
use Rattle.command_ends.specs.declared.cause.Cause.{Cause}
use Rattle.command_ends.specs.declared.cause.Cause.TheVariants.{Refused, WriteFault}
use Rattle.command_ends.specs.declared.cause.Refusal.TheVariants.{Words}
use Rattle.command_ends.specs.declared.cause.WordsRefusal.TheVariants.{Usage}
use Rattle.command_relay.specs.Jobs as jobs
use Rattle.command_relay.specs.Outputs.{IsRefusedAt}
use Rattle.command_relay.specs.Relaying.{RelayTask, relay_reading, relay_words}
use Rattle.command_relay.specs.declared.job.RelayJob.{RelayJob}
use Rattle.command_relay.specs.inside.Values.{relay_values}

-- what the words read where they have a job
pub words_read : (words : List Text) (read : Option RelayJob) (job : RelayJob) → read ≡ Some job
    → option_map relay_values read ≡ jobs.relay_of words → relay_reading (relay_values job) ≡ relay_words words
words_read words read job is found =
    ap (λ (o : Option jobs.RelayJob). asked o relay_reading)
    (sym (ap (λ (o : Option RelayJob). option_map relay_values o) is) ∙ found)

-- and where they have none
pub words_refused : (words : List Text) (read : Option RelayJob) (old : DiskView) (cause : Cause) → read ≡ None
    → option_map relay_values read ≡ jobs.relay_of words → cause ≡ Refused (Words (Usage tt))
    → StopsReading (relay_words words) old old cause
words_refused words read old cause is found cause_is =
    subst (λ (r : Reading RelayTask). StopsReading r old old cause)
    (ap (λ (o : Option jobs.RelayJob). asked o relay_reading)
    (sym (ap (λ (o : Option RelayJob). option_map relay_values o) is) ∙ found))
    (ReadingRefused (Words (Usage tt)) cause_is refl (λ name e. absurd (cc e)))

-- a cause that `?` hands on
pub refused_handed : {T : Type 0} (words : List Text) (name : Text) (old new : DiskView) (cause : Cause)
    (result : Result T Cause) → IsErrAnd result (λ handed. handed ≡ cause)
    → StopsReading (relay_words words) old new cause → IsRefusedAt words name old new (cause_in result)
refused_handed words name old new cause (Ok value) none stops = absurd none
refused_handed words name old new cause (Err handed) same stops =
    inl (subst (StopsReading (relay_words words) old new) (sym same) stops)

-- what stops a job's reading stops that of its words
pub stops_words : (words : List Text) (old new : DiskView) (cause : Cause) (reading : Reading RelayTask)
    → reading ≡ relay_words words → StopsReading reading old new cause → StopsReading (relay_words words) old new cause
stops_words words old new cause reading e stops = subst (λ (r : Reading RelayTask). StopsReading r old new cause) e stops

-- the fault of an output
pub refused_output : (words : List Text) (name made : Text) (old new : DiskView) (reading : Reading RelayTask)
    (task : RelayTask) → made ≡ name → reading ≡ relay_words words → Reaches old.files reading (AtTask task)
    → IsRefusedAt words name old new (Some (WriteFault made))
refused_output words name made old new reading task is e read = inr (
  ap WriteFault is,
  record { task = task; read = subst (λ (r : Reading RelayTask). Reaches old.files r (AtTask task)) e read },
)
