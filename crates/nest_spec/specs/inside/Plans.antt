-- For proofs alone: what is true of the words of one shell.
use Rattle.std.specs.Prelude.{◌≡◌, length}
use Rattle.nest_spec.specs.Words.{ShellRead}
use Rattle.nest_spec.specs.Shells.{IsShell, traces_in, logs_in}

-- There are as many traces and logs as the shell names, and a delay is at most an hour.
pub record IsShellRead (read : ShellRead) : Type 0 where
  pub shell : IsShell read.shell
  pub traces : length read.traces ≡ traces_in read.shell
  pub logs : length read.logs ≡ logs_in read.shell
