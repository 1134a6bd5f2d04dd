-- Beside Ends, for proofs alone: how a command ends, by its cause, before the cause is explained. `work task` is what a
-- task does.
use Rattle.std.specs.Prelude.{Option}
use Rattle.mm_base.specs.Files.{Files}
use Rattle.command_ends.specs.Outputs.{Output}
use Rattle.command_ends.specs.Readings.{Reading}
use Rattle.command_ends.specs.Works.{only}
use Rattle.command_ends.specs.Ends.{Finishes}

-- the same of a command that touches no net
abbrev pub FinishesOnly : {A : Type 0} → (A → Output → Type 0) → Reading A → Option Files → Output → Type 0
FinishesOnly Gives reading told output = Finishes {N = Unit {0}} (only Gives) reading told tt tt output
