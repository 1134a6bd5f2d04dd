-- What is true of every nest that words state: how many shells, traces and logs it has.
use Rattle.std.specs.Prelude.{◌≡◌, ℕ, ◌+◌, ◌≤◌, List, [], ◌∷◌, length}
use Rattle.nest_spec.specs.Words.{NestPlan}
use Rattle.nest_spec.specs.Shells.{IsShell, traces_in, logs_in}
use Rattle.nest_spec.specs.declared.shell.Shell.{Shell}
use Rattle.nest_spec.specs.declared.shell_words.LinkSide.{LinkSide}

-- Each delay is at most an hour.
abbrev pub AreShells : {S : Type 0} → List (Shell S) → Type 0
AreShells [] = Unit {0}
AreShells (shell ∷ shells) = IsShell shell × AreShells shells

-- How many traces all shells name.
abbrev pub trace_count : List (Shell LinkSide) → ℕ
trace_count [] = 0
trace_count (shell ∷ shells) = traces_in shell + trace_count shells

-- How many logs all shells name.
abbrev pub log_count : List (Shell LinkSide) → ℕ
log_count [] = 0
log_count (shell ∷ shells) = logs_in shell + log_count shells

-- What is true of a plan while its words are read: it has at most eight shells, and as many traces and logs as these
-- name.
pub record IsPart (plan : NestPlan) : Type 0 where
  pub few : length plan.shells ≤ 8
  pub shells : AreShells plan.shells
  pub traces : length plan.traces ≡ trace_count plan.shells
  pub logs : length plan.logs ≡ log_count plan.shells

-- What is true of a whole plan: it has at least one shell too.
pub record IsPlan (plan : NestPlan) : Type 0 where
  pub some : 1 ≤ length plan.shells
  pub part : IsPart plan
