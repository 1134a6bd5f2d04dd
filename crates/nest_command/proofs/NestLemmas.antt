-- What a run's words and traces are refused for.
use Rattle.std.proofs.Common.{◌≡◌, ◌≢◌, inr, ℕ, ◌<◌, ◌≤◌, Bool, true, false, cond, nat_lt, List, Option, Some}
use Rattle.std.proofs.Common.{None, Result, MatchResult, refl, ap, subst, sym, ◌∙◌, rules, tests, arith}
use Rattle.trace_reader.specs.Traces.{TraceView}
use Rattle.nest_spec.specs.Nests.{opportunities_of}
use Rattle.nest_spec.specs.declared.shell.Shell.{Shell}
use Rattle.nest_spec.specs.declared.shell_words.LinkSide.{LinkSide}
use Rattle.command_ends.specs.Causes.{Text, status_of_refusal}
use Rattle.command_ends.specs.Names.{first_taken, refused_name, refused_names}
use Rattle.command_ends.specs.Stops.{RefusesText}
use Rattle.command_ends.specs.declared.cause.Cause.{Cause}
use Rattle.command_ends.specs.declared.cause.Cause.TheVariants.{Refused}
use Rattle.command_ends.specs.declared.cause.Limit.TheVariants.{Horizon, Opportunities}
use Rattle.command_ends.specs.declared.cause.Refusal.{Refusal}
use Rattle.command_ends.specs.declared.cause.Refusal.TheVariants.{Limit, Words}
use Rattle.command_ends.specs.declared.cause.WordsRefusal.TheVariants.{Name}
use Rattle.command_ends.proofs.ReadingLemmas.{IsOfText}
use Rattle.nest_command.specs.NestReading.{refused_count, refused_horizon}

pub horizon_over : (horizon : ℕ) (cause : Cause) → 3600000 < horizon → cause ≡ Refused (Limit Horizon)
    → RefusesText (refused_horizon horizon) cause
unfolding refused_horizon
horizon_over horizon cause lt is =
    let over : nat_lt 3600000 horizon ≡ true = search (rules, tests) in
    inr (Limit Horizon, is, ap (λ b. cond b (Some (Limit Horizon)) None) over)

pub horizon_within : (horizon : ℕ) → horizon ≤ 3600000 → refused_horizon horizon ≡ None
unfolding refused_horizon
horizon_within horizon le =
    let within : nat_lt 3600000 horizon ≡ false = search (rules, tests) in
    ap (λ b. cond b (Some (Limit Horizon)) None) within

pub count_over : (horizon : ℕ) (shells : List (Shell LinkSide)) (traces : List TraceView) (cause : Cause)
    → 16000000 < opportunities_of horizon shells traces → cause ≡ Refused (Limit Opportunities)
    → RefusesText (refused_count horizon shells traces) cause
unfolding refused_count
count_over horizon shells traces cause lt is =
    let over : nat_lt 16000000 (opportunities_of horizon shells traces) ≡ true = search (rules, tests) in
    inr (Limit Opportunities, is, ap (λ b. cond b (Some (Limit Opportunities)) None) over)

pub count_within : (horizon : ℕ) (shells : List (Shell LinkSide)) (traces : List TraceView)
    → opportunities_of horizon shells traces ≤ 16000000 → refused_count horizon shells traces ≡ None
unfolding refused_count
count_within horizon shells traces le =
    let within : nat_lt 16000000 (opportunities_of horizon shells traces) ≡ false = search (rules, tests) in
    ap (λ b. cond b (Some (Limit Opportunities)) None) within

five : (limit : Refusal) (refusal : Refusal) (b : Bool) → status_of_refusal limit ≡ 5
    → cond b (Some limit) None ≡ Some refusal → IsOfText refusal
five limit refusal true is e =
    let same : limit ≡ refusal = cc e in
    let status : status_of_refusal refusal ≡ 5 = ap status_of_refusal (sym same) ∙ is in
    record { not_words = λ h. omega arith; not_absent = λ h. omega arith }
five limit refusal false is e = absurd (cc e)

pub horizon_text : (horizon : ℕ) (refusal : Refusal) → refused_horizon horizon ≡ Some refusal → IsOfText refusal
unfolding refused_horizon
horizon_text horizon refusal e = five (Limit Horizon) refusal (nat_lt 3600000 horizon) refl e

pub count_text : (horizon : ℕ) (shells : List (Shell LinkSide)) (traces : List TraceView) (refusal : Refusal)
    → refused_count horizon shells traces ≡ Some refusal → IsOfText refusal
unfolding refused_count
count_text horizon shells traces refusal e = five (Limit Opportunities) refusal
    (nat_lt 16000000 (opportunities_of horizon shells traces)) refl e

name_status : (found : Option Text) (refusal : Refusal) → refused_name found ≡ Some refusal
    → status_of_refusal refusal ≢ 3
name_status None refusal e three = absurd (cc e)
name_status (Some name) refusal e three =
    let same : Words (Name name) ≡ refusal = cc e in
    let status : 2 ≡ status_of_refusal refusal = ap status_of_refusal same in
    omega arith

pub names_there : (inputs outputs : List Text) (refusal : Refusal) → refused_names inputs outputs ≡ Some refusal
    → status_of_refusal refusal ≢ 3
unfolding refused_names
names_there inputs outputs refusal e = name_status (first_taken inputs outputs) refusal e

pub names_free : (inputs outputs : List Text) → first_taken inputs outputs ≡ None → refused_names inputs outputs ≡ None
unfolding refused_names
names_free inputs outputs e = ap refused_name e

pub names_taken : (inputs outputs : List Text) (name : Text) (cause : Cause) → first_taken inputs outputs ≡ Some name
    → cause ≡ Refused (Words (Name name))
    → RefusesText (refused_names inputs outputs) cause
unfolding refused_names
names_taken inputs outputs name cause e is = inr (Words (Name name), is, ap refused_name e)

-- what is shown of names holds of equal names
pub names_checked : {inputs outputs ins outs : List Text} (result : Result (Unit {0}) Cause) → inputs ≡ ins
    → outputs ≡ outs
    → MatchResult result (λ _. refused_names inputs outputs ≡ None)
    (λ cause. RefusesText (refused_names inputs outputs) cause)
    → MatchResult result (λ _. refused_names ins outs ≡ None)
    (λ cause. RefusesText (refused_names ins outs) cause)
names_checked result same_inputs same_outputs said =
    subst (λ (found : Option Refusal). MatchResult result (λ _. found ≡ None) (λ cause. RefusesText found cause))
    (λ j. refused_names (same_inputs j) (same_outputs j)) said
