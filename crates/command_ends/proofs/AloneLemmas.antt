-- Words that are refused leave the outside alone.
use Rattle.std.proofs.Common.{◌≡◌, ◌≢◌, ◌∙◌, Option, Some, None, ap, option_map, refl, sym, subst}
use Rattle.mm_base.specs.Files.{Files}
use Rattle.command_ends.specs.Causes.{status_of_refusal}
use Rattle.command_ends.specs.Alone.{IsLeftAlone}
use Rattle.command_ends.specs.Readings.{Reading, Done, Refuses, Reads, Judges, asked, map_reading}
use Rattle.command_ends.specs.Readings.{Reaches, AtTask, AtRefusal, refused_first, unless}
use Rattle.command_ends.specs.Ends.{Outside, Ends, WantsMemory, Early, Serving, Writing, Printing}
use Rattle.command_ends.specs.Works.{Work}
use Rattle.command_ends.specs.declared.cause.Cause.{Cause}
use Rattle.command_ends.specs.declared.cause.Cause.TheVariants.{Refused, ReadFault, WriteFault, OutFault, NetFault}
use Rattle.command_ends.specs.declared.cause.Cause.TheVariants.{OutOfMemory}
use Rattle.command_ends.specs.inside.Accepted.{AcceptsWords}
use Rattle.command_ends.specs.declared.cause.Refusal.{Refusal}
use Rattle.command_ends.specs.declared.cause.Refusal.TheVariants.{Words}
use Rattle.command_ends.specs.declared.cause.WordsRefusal.{WordsRefusal}
use Rattle.command_ends.proofs.ReadingLemmas.{RefusesNoWords, first_kept}

-- what asks for nothing
pub same_alone : {A V : Type 0} (reading : Reading A) (view : V) → IsLeftAlone reading view view
same_alone reading view = λ refusal is. refl

-- words that are accepted
pub accepted_alone : {A V : Type 0} (reading : Reading A) (old new : V) → AcceptsWords reading
    → IsLeftAlone reading old new
accepted_alone reading old new accepts = λ refusal is. absurd (accepts refusal is)

-- what refuses no words at all accepts them
pub no_words_accepted : {A : Type 0} (reading : Reading A) → RefusesNoWords reading → AcceptsWords reading
no_words_accepted (Done task) none refusal is = cc is
no_words_accepted (Refuses other) none refusal is =
    let same : other ≡ Words refusal = cc is in none (ap status_of_refusal same)
no_words_accepted (Reads name next) none refusal is = cc is
no_words_accepted (Judges Says next) none refusal is = cc is

pub unless_accepted : {A : Type 0} (found : Option Refusal) (next : Reading A) → found ≡ None → AcceptsWords next
    → AcceptsWords (unless found next)
unless_accepted {A} found next none accepts =
    subst (λ (o : Option Refusal). AcceptsWords (unless o next)) (sym none) accepts

-- a refusal that isn't of words accepts them
pub unless_words : {A : Type 0} (found : Option Refusal) (next : Reading A)
    → ((refusal : Refusal) → found ≡ Some refusal → status_of_refusal refusal ≢ 2) → AcceptsWords next
    → AcceptsWords (unless found next)
unless_words None next none accepts = accepts
unless_words (Some other) next none accepts = λ refusal is.
    let same : other ≡ Words refusal = cc is in none other refl (ap status_of_refusal same)

-- what begins with a file, or with a task, accepts all words
pub unrefused : {V : Type 0} (old new : V) (refusal : WordsRefusal) → None ≡ Some (Words refusal)
    → new ≡ old
unrefused old new refusal is = absurd (cc is)

-- the words of a job
pub asked_alone : {A J V : Type 0} (found : Option J) (job : J) (reading : J → Reading A) (old new : V)
    → Some job ≡ found → IsLeftAlone (reading job) old new → IsLeftAlone (asked found reading) old new
asked_alone {A} {J} found job reading old new is alone =
    subst (λ (o : Option J). IsLeftAlone (asked o reading) old new) is alone

-- the words of which a job with these values was read
pub alone_job : {A J K V : Type 0} (values : J → K) (read : Option J) (job : J) (found : Option K)
    (reading : K → Reading A) (old new : V) → read ≡ Some job → option_map values read ≡ found
    → IsLeftAlone (reading (values job)) old new → IsLeftAlone (asked found reading) old new
alone_job {A} {J} values read job found reading old new is found_is alone =
    asked_alone found (values job) reading old new
    (ap (λ (o : Option J). option_map values o) (sym is) ∙ found_is) alone

first_as_mapped : {A B : Type 0} (f : A → B) (reading : Reading A)
    → refused_first (map_reading f reading) ≡ refused_first reading
first_as_mapped f (Done task) = refl
first_as_mapped f (Refuses refusal) = refl
first_as_mapped f (Reads name next) = refl
first_as_mapped f (Judges Says next) = refl

-- a command among others
pub mapped_alone : {A B V : Type 0} (f : A → B) (reading : Reading A) (whole : Reading B) (old new : V)
    → map_reading f reading ≡ whole → IsLeftAlone reading old new → IsLeftAlone whole old new
mapped_alone f reading whole old new same alone = λ refusal is.
    alone refusal (sym (first_as_mapped f reading) ∙ ap refused_first same ∙ is)

no_task : {A : Type 0} (told : Option Files) (reading : Reading A) (task : A) (refusal : WordsRefusal)
    → refused_first reading ≡ Some (Words refusal) → Reaches told reading (AtTask task) → ⊥
no_task told reading task refusal is read =
    let no : AtTask task ≡ AtRefusal (Words refusal) =
    first_kept told reading (AtTask task) (Words refusal) is read in cc no

module _ {A N : Type 0} (work : A → Work N) (reading : Reading A) (old new : Outside N) where
  memory_alone : WantsMemory work reading old new → IsLeftAlone reading old.net new.net
  memory_alone (Early unchanged) = λ refusal is. unchanged.net
  memory_alone (Serving stopped) = λ refusal is.
      absurd (no_task old.disk.files reading stopped.task refusal is stopped.read)
  memory_alone (Writing name partly) = λ refusal is.
      absurd (no_task old.disk.files reading partly.finishes.task refusal is partly.finishes.read)
  memory_alone (Printing partly) = λ refusal is.
      absurd (no_task old.disk.files reading partly.finishes.task refusal is partly.finishes.read)

  -- what a command serves is left alone, however it ended
  pub net_alone : (answer : Option Cause) → Ends work reading old new answer → IsLeftAlone reading old.net new.net
  net_alone None ends = λ refusal is.
      absurd (no_task old.disk.files reading ends.finishes.task refusal is ends.finishes.read)
  net_alone (Some (Refused other)) ends = λ refusal is. ends.unchanged.net
  net_alone (Some (ReadFault name)) ends = λ refusal is. ends.unchanged.net
  net_alone (Some (WriteFault name)) ends = λ refusal is.
      absurd (no_task old.disk.files reading ends.partly.finishes.task refusal is ends.partly.finishes.read)
  net_alone (Some OutFault) ends = λ refusal is.
      absurd (no_task old.disk.files reading ends.partly.finishes.task refusal is ends.partly.finishes.read)
  net_alone (Some NetFault) ends = λ refusal is.
      absurd (no_task old.disk.files reading ends.stopped.task refusal is ends.stopped.read)
  net_alone (Some OutOfMemory) ends = memory_alone ends
