-- In which mode the packets of a run pass its nest.
use Rattle.std.specs.Prelude.{ℕ, List, Option, Some, None, Bool, true, false}
use Rattle.command_run.specs.declared.passing.RunMode.{RunMode}
use Rattle.command_run.specs.declared.passing.RunMode.TheVariants.{Threads, ShellByShell, Steps}

-- by an order if there is one, else shell by shell with `--plain`, and over threads without it
abbrev pub mode_of : Bool → Option (List ℕ) → RunMode
mode_of plain (Some order) = Steps order
mode_of true None = ShellByShell
mode_of false None = Threads
