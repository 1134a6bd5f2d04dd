-- What words state as a nest is a plan of 1 to 8 shells.
use Rattle.std.proofs.Common.{◌≡◌, ℕ, zero, suc, ◌+◌, ◌-◌, ◌≤◌, ◌<◌, List, [], ◌∷◌, ◌++◌, length, Option, Some, None}
use Rattle.std.proofs.Common.{Result, Ok, Err, refl, ap, sym, subst, ◌∙◌, arith, length-append}
use Rattle.nest_spec.specs.Words.{Text, and_then, ShellRead, shell_words, NestPlan, no_shells, with_shell, next_shell}
use Rattle.nest_spec.specs.Words.{passed_over, followed, shells_from, nest_of}
use Rattle.nest_spec.specs.Shells.{IsShell, traces_in, logs_in}
use Rattle.nest_spec.specs.Plans.{AreShells, trace_count, log_count, IsPart, IsPlan}
use Rattle.nest_spec.specs.inside.Plans.{IsShellRead}
use Rattle.nest_spec.specs.declared.error.NestError.{NestError}
use Rattle.nest_spec.specs.declared.error.NestError.TheVariants as errors
use Rattle.nest_spec.specs.declared.shell.Shell.{Shell}
use Rattle.nest_spec.specs.declared.shell_words.LinkSide.{LinkSide}
use Rattle.nest_spec.proofs.ShellLemmas.{and_then_ok, shell_fits}

plan_same : (p q : NestPlan) → (let x : Result NestPlan NestError = Ok p in x) ≡ Ok q → p ≡ q
plan_same p q e = cc

are-push : (shells : List (Shell LinkSide)) (shell : Shell LinkSide) → AreShells shells → IsShell shell
    → AreShells (shells ++ shell ∷ [])
are-push [] shell are is = (is, tt)
are-push (s ∷ shells) shell are is = (are.0, are-push shells shell are.1 is)

traces-push : (shells : List (Shell LinkSide)) (shell : Shell LinkSide)
    → trace_count (shells ++ shell ∷ []) ≡ trace_count shells + traces_in shell
traces-push [] shell = omega arith
traces-push (s ∷ shells) shell = ap (λ n. traces_in s + n) (traces-push shells shell) ∙ omega arith

logs-push : (shells : List (Shell LinkSide)) (shell : Shell LinkSide)
    → log_count (shells ++ shell ∷ []) ≡ log_count shells + logs_in shell
logs-push [] shell = omega arith
logs-push (s ∷ shells) shell = ap (λ n. logs_in s + n) (logs-push shells shell) ∙ omega arith

part-push : (plan : NestPlan) (read : ShellRead) → length plan.shells ≤ 7 → IsPart plan → IsShellRead read
    → IsPart (with_shell plan read)
part-push plan read few part is = record {
  few = omega (arith, length-append plan.shells (read.shell ∷ []));
  shells = are-push plan.shells read.shell part.shells is.shell;
  traces = length-append plan.traces read.traces ∙ ap (λ n. n + length read.traces) part.traces
      ∙ ap (λ n. trace_count plan.shells + n) is.traces ∙ sym (traces-push plan.shells read.shell);
  logs = length-append plan.logs read.logs ∙ ap (λ n. n + length read.logs) part.logs
      ∙ ap (λ n. log_count plan.shells + n) is.logs ∙ sym (logs-push plan.shells read.shell);
}

followed_fits : (plan plan' : NestPlan) (rest : Option (ℕ × List Text)) (more : ℕ → List Text
    → Result NestPlan NestError) → IsPlan plan
    → ((p : ℕ) (ws : List Text) → more p ws ≡ Ok plan' → IsPlan plan') → followed plan rest more ≡ Ok plan'
    → IsPlan plan'
followed_fits plan plan' None more is more_fits e = subst IsPlan (plan_same plan plan' e) is
followed_fits plan plan' (Some rest) more is more_fits e = more_fits rest.0 rest.1 e

-- the shells that are read make a part of at most eight a plan
shells_fit : (left : ℕ) (plan : NestPlan) (place : ℕ) (missing : NestError) (words : List Text) (plan' : NestPlan)
    → left + length plan.shells ≡ 8 → IsPart plan
    → shells_from left plan place missing words ≡ Ok plan' → IsPlan plan'
unfolding shells_from
shells_fit left plan place missing [] plan' count part e = absurd cc
shells_fit zero plan place missing (word ∷ words) plan' count part e = absurd cc
shells_fit (suc left) plan place missing (word ∷ words) plan' count part e =
    let step = and_then_ok (shell_words (next_shell plan) place word words) (λ read.
    followed (with_shell plan read) (passed_over read.place read.rest)
    (λ place' rest. shells_from left (with_shell plan read) place' (errors.MissingWord (next_shell plan)) rest))
    plan' e in
    let read = step.0 in
    let is : IsPart (with_shell plan step.0) = part-push plan step.0 (omega (arith, count)) part
    (shell_fits (next_shell plan) place word words step.0 step.1.0) in
    let longer : length (plan.shells ++ step.0.shell ∷ []) ≡ length plan.shells + 1 =
    length-append plan.shells (step.0.shell ∷ []) in
    let whole : IsPlan (with_shell plan step.0) = record { some = omega arith; part = is } in
    followed_fits (with_shell plan read) plan' (passed_over read.place read.rest)
    (λ place' rest. shells_from left (with_shell plan read) place' (errors.MissingWord (next_shell plan)) rest)
    whole
    (λ p ws went. shells_fit left (with_shell plan read) p (errors.MissingWord (next_shell plan)) ws plan'
    (omega (arith, count)) is went) step.1.1

pub nest_fits : (words : List Text) (plan : NestPlan) → nest_of words ≡ Ok plan → IsPlan plan
nest_fits words plan e = shells_fit 8 no_shells 1 errors.NoShell words plan (omega arith)
    (record { few = omega arith; shells = tt; traces = refl; logs = refl }) e

-- one shell more is read
pub goes_on : (left : ℕ) (plan plan' : NestPlan) (place shell : ℕ) (missing : NestError) (words : List Text)
    (word : Text) (rest : List Text) (read : ShellRead)
    → 0 < left → words ≡ word ∷ rest → shell ≡ next_shell plan
    → shell_words shell place word rest ≡ Ok read → plan' ≡ with_shell plan read
    → shells_from left plan place missing words ≡ followed plan' (passed_over read.place read.rest)
    (λ p ws. shells_from (left - 1) plan' p (errors.MissingWord shell) ws)
unfolding shells_from
goes_on zero plan plan' place shell missing words word rest read some w s r n = absurd (omega arith)
goes_on (suc left) plan plan' place shell missing words word rest read some w s r n =
    let less : suc left - 1 ≡ left = omega arith in
    let reads : shell_words (next_shell plan) place word rest ≡ Ok read =
    subst (λ m. shell_words m place word rest ≡ Ok read) s r in
    ap (shells_from (suc left) plan place missing) w
    ∙ ap (λ s. and_then s (λ read. followed (with_shell plan read) (passed_over read.place read.rest)
    (λ p ws. shells_from left (with_shell plan read) p (errors.MissingWord (next_shell plan)) ws))) reads
    ∙ ap (λ q. followed q (passed_over read.place read.rest)
    (λ p ws. shells_from left q p (errors.MissingWord (next_shell plan)) ws)) (sym n)
    ∙ ap (λ m. followed plan' (passed_over read.place read.rest)
    (λ p ws. shells_from left plan' p (errors.MissingWord m) ws)) (sym s)
    ∙ ap (λ m. followed plan' (passed_over read.place read.rest)
    (λ p ws. shells_from m plan' p (errors.MissingWord shell) ws)) (sym less)

-- or refused
pub stops : (left : ℕ) (plan : NestPlan) (place shell : ℕ) (missing : NestError) (words : List Text) (word : Text)
    (rest : List Text) (fault : NestError)
    → 0 < left → words ≡ word ∷ rest → shell ≡ next_shell plan
    → shell_words shell place word rest ≡ Err fault
    → shells_from left plan place missing words ≡ Err fault
unfolding shells_from
stops zero plan place shell missing words word rest fault some w s r = absurd (omega arith)
stops (suc left) plan place shell missing words word rest fault some w s r =
    let reads : shell_words (next_shell plan) place word rest ≡ Err fault =
    subst (λ m. shell_words m place word rest ≡ Err fault) s r in
    ap (shells_from (suc left) plan place missing) w
    ∙ ap (λ s. and_then s (λ read. followed (with_shell plan read) (passed_over read.place read.rest)
    (λ p ws. shells_from left (with_shell plan read) p (errors.MissingWord (next_shell plan)) ws))) reads
