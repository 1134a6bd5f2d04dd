-- An output that has the name of an input is refused.
use Rattle.std.proofs.Common.{◌≡◌, ◌≢◌, inr, List, [], ◌∷◌, Option, Some, None, Result, Ok, Err}
use Rattle.std.proofs.Common.{MatchResult, OnOk, ap, arith}
use Rattle.mm_base.specs.Disk.{DiskView}
use Rattle.command_ends.specs.Causes.{Text, status_of_refusal}
use Rattle.command_ends.specs.Names.{first_taken, refused_name, refused_names}
use Rattle.command_ends.specs.Readings.{Reading, unless}
use Rattle.command_ends.specs.Stops.{RefusesText}
use Rattle.command_ends.specs.inside.Accepted.{AcceptsWords}
use Rattle.command_ends.specs.inside.Stops.{ReadsOn}
use Rattle.command_ends.specs.declared.cause.Cause.{Cause}
use Rattle.command_ends.specs.declared.cause.Cause.TheVariants.{Refused}
use Rattle.command_ends.specs.declared.cause.Refusal.{Refusal}
use Rattle.command_ends.specs.declared.cause.Refusal.TheVariants.{Words}
use Rattle.command_ends.specs.declared.cause.WordsRefusal.TheVariants.{Name}
use Rattle.command_ends.proofs.AloneLemmas.{unless_accepted}
use Rattle.command_ends.proofs.ReadingLemmas.{found_stop, leads_unless}

name_status : (found : Option Text) (refusal : Refusal) → refused_name found ≡ Some refusal
    → status_of_refusal refusal ≢ 3
name_status None refusal e three = absurd (let no : None ≡ Some refusal = e in cc no)
name_status (Some name) refusal e three =
    let same : Words (Name name) ≡ refusal = cc e in
    omega (arith, ap status_of_refusal same)

names_there : (inputs outputs : List Text) (refusal : Refusal) → refused_names inputs outputs ≡ Some refusal
    → status_of_refusal refusal ≢ 3
unfolding refused_names
names_there inputs outputs refusal e = name_status (first_taken inputs outputs) refusal e

pub name_free : (inputs outputs : List Text) → first_taken inputs outputs ≡ None → refused_names inputs outputs ≡ None
unfolding refused_names
name_free inputs outputs e = ap refused_name e

pub name_taken : (inputs outputs : List Text) (name : Text) (cause : Cause) → first_taken inputs outputs ≡ Some name
    → cause ≡ Refused (Words (Name name)) → RefusesText (refused_names inputs outputs) cause
unfolding refused_names
name_taken inputs outputs name cause e is = inr (Words (Name name), is, ap refused_name e)

-- an output that isn't refused leads on
pub names_read : {A T : Type 0} (inputs : List Text) (out : Text) (next : Reading A) (result : Result T Cause)
    → MatchResult result (λ _. refused_names inputs (out ∷ []) ≡ None)
    (λ cause. RefusesText (refused_names inputs (out ∷ [])) cause) → (disk : DiskView)
    → ReadsOn (unless (refused_names inputs (out ∷ [])) next) (λ _. next) disk disk result
names_read inputs out next (Ok value) free disk = leads_unless disk.files (refused_names inputs (out ∷ [])) next free
names_read inputs out next (Err cause) refused disk =
    found_stop (refused_names inputs (out ∷ [])) next disk disk cause (names_there inputs (out ∷ [])) refused

-- and refuses no words
pub names_accepted : {A T : Type 0} (inputs : List Text) (out : Text) (next : Reading A) (result : Result T Cause)
    → MatchResult result (λ _. refused_names inputs (out ∷ []) ≡ None)
    (λ cause. RefusesText (refused_names inputs (out ∷ [])) cause) → AcceptsWords next
    → OnOk result (AcceptsWords (unless (refused_names inputs (out ∷ [])) next))
names_accepted inputs out next (Ok value) free accepts =
    unless_accepted (refused_names inputs (out ∷ [])) next free accepts
names_accepted inputs out next (Err cause) refused accepts = tt
