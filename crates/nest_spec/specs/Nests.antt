-- A nest, what its shells do in each direction, and what a run of it gives.
use Rattle.std.specs.Prelude.{ℕ, ◌+◌, ◌≤◌, List, [], ◌∷◌, length, map, reverse, nat_lt, if◌then◌else◌}
use Rattle.text_base.specs.declared.limits.TheConstants.{HOUR, MOST_OPPORTUNITIES}
use Rattle.packet_record.specs.declared.packet.Direction.{Direction}
use Rattle.packet_record.specs.declared.packet.Direction.TheVariants.{Up, Down}
use Rattle.packet_record.specs.declared.packet.Row.{Row}
use Rattle.packet_record.specs.Rows.{entering}
use Rattle.trace_reader.specs.declared.trace.Trace.{Trace}
use Rattle.shell_state.specs.declared.spec.DirSpec.{DirSpec}
use Rattle.shell_state.specs.Shells.{IsInRange, opportunities}
use Rattle.nest_spec.specs.declared.fate.Fate.{Fate}
use Rattle.nest_spec.specs.declared.fate.Fate.TheVariants as fates
use Rattle.nest_spec.specs.declared.fate.FateRow.{FateRow}
use Rattle.nest_spec.specs.declared.shell_words.LinkSide.{LinkSide}
use Rattle.nest_spec.specs.declared.shell.Shell.{Shell}
use Rattle.nest_spec.specs.declared.shell.LinkDirection.{LinkDirection}
use Rattle.nest_spec.specs.declared.shell.ShellDirection.{ShellDirection}
use Rattle.nest_spec.specs.Words.{NestPlan}
use Rattle.nest_spec.specs.Shells.{shells_of, all_opportunities, spec_in, log_name}
use Rattle.nest_spec.specs.Plans.{AreShells}
use Rattle.nest_spec.specs.Walk.{Step, walk, named_log, in_nest_order}
use Rattle.nest_spec.specs.Fates.{fate_in, fated}
pub use Rattle.nest_spec.specs.Walk.{NamedEntries}

-- The shells, the outermost first, the seed of their losses, and the horizon in milliseconds.
pub record NestParts : Type 0 where
  pub shells : List (Shell LinkDirection)
  pub seed : ℕ
  pub horizon : ℕ

-- The nest of a plan, with `traces` in the order of their names.
abbrev pub built : NestPlan → List Trace → ℕ → ℕ → NestParts
built plan traces seed horizon = record {
  shells = shells_of plan.shells traces plan.logs;
  seed = seed;
  horizon = horizon;
}

-- the nest with another horizon
abbrev pub until : ℕ → NestParts → NestParts
until horizon nest = record nest { horizon = horizon }

-- How many opportunities the links of words have with `traces`, in both directions together.
abbrev pub opportunities_of : ℕ → List (Shell LinkSide) → List Trace → ℕ
opportunities_of h shells traces = all_opportunities h (shells_of shells traces [])

-- The shell `number` in the direction `d`: its number, what it does there, and the name of its log there.
abbrev pub in_direction : Direction → ℕ → ℕ → Shell LinkDirection → ShellDirection
in_direction d seed number shell = record {
  number = number;
  spec = spec_in d seed number shell;
  log = log_name d shell;
}

-- Shells in the direction `d`, in the order of the nest. The first has the number `number`.
abbrev pub all_in_direction : Direction → ℕ → ℕ → List (Shell LinkDirection) → List ShellDirection
all_in_direction d seed number [] = []
all_in_direction d seed number (shell ∷ shells) = in_direction d seed number shell ∷ all_in_direction d seed
    (number + 1) shells

-- A nest's shells in the order in which packets pass them: up the innermost first, down the outermost first.
abbrev pub in_passing_order : {A : Type 0} → Direction → List A → List A
in_passing_order Up xs = reverse xs
in_passing_order Down xs = xs

-- The shells of a nest in a direction, in passing order. They are numbered from 1, the outermost first.
abbrev pub shells_in : Direction → NestParts → List ShellDirection
shells_in d nest = in_passing_order d (all_in_direction d nest.seed 1 nest.shells)

-- What the shells of a nest do in a direction, in passing order.
abbrev pub directions_of : Direction → NestParts → List DirSpec
directions_of d nest = map (λ (s : ShellDirection). s.spec) (shells_in d nest)

-- Each shell's delay is within its range, and each has at most 16,000,000 opportunities up to the horizon `h`.
abbrev pub AllFit : ℕ → List DirSpec → Type 0
AllFit h [] = Unit {0}
AllFit h (c ∷ specs) = IsInRange c × (length (opportunities c h) ≤ MOST_OPPORTUNITIES) × AllFit h specs

-- What is true of every nest: it has 1 to 8 shells, delays and a horizon of at most an hour, and at most 16,000,000
-- opportunities up to the horizon.
pub record IsNest (nest : NestParts) : Type 0 where
  pub some : 1 ≤ length nest.shells
  pub few : length nest.shells ≤ 8
  pub shells : AreShells nest.shells
  pub horizon : nest.horizon ≤ HOUR
  pub opportunities : all_opportunities nest.horizon nest.shells ≤ MOST_OPPORTUNITIES

-- The walk of the packets that enter in a direction, up to the horizon, through the nest.
abbrev pub walk_of : Direction → NestParts → List Row → List Step
walk_of d nest rows = walk nest.horizon (shells_in d nest) (entering d nest.horizon rows)

-- The fate of a row. A row whose moment is after the horizon is unsent.
abbrev pub fate_of : NestParts → List Row → Row → Fate
fate_of nest rows row =
    if nat_lt nest.horizon row.timed.moment then fates.Unsent
    else fate_in row.timed.packet.id (entering row.direction nest.horizon rows) (walk_of row.direction nest rows)

-- The result of a run: the fate of each row in their order, and the logs that have a name in the nest's order, up
-- before down.
pub record RunLists : Type 0 where
  pub fates : List FateRow
  pub logs : List NamedEntries

-- The result of `fates` and `logs`.
abbrev pub run_lists : List FateRow → List NamedEntries → RunLists
run_lists fates logs = record { fates = fates; logs = logs }

-- The named logs of a run in the nest's order, up before down.
abbrev pub logs_of : NestParts → List Row → List NamedEntries
logs_of nest rows = in_nest_order (map named_log (walk_of Up nest rows)) (map named_log (walk_of Down nest rows))

-- The result of a run of `rows` through a nest.
abbrev pub result_of : NestParts → List Row → RunLists
result_of nest rows = run_lists (fated (fate_of nest rows) rows) (logs_of nest rows)
