-- What the command `make` is asked for, and what it prints.
use Rattle.std.specs.Prelude.{◌≡◌, ℕ, List, [], ◌∷◌, Option, Some, None, option_and_then}
use Rattle.text_base.specs.Numbers.{decimal_of}
use Rattle.command_report.specs.SummaryText.{IsSummary}
use Rattle.option_words.specs.Commands.{table_of}
use Rattle.option_words.specs.Givens.{givens, ◌>>=◌}
use Rattle.option_words.specs.Numbers.{number_within}
use Rattle.option_words.specs.declared.command.Command.TheVariants.{Make}
use Rattle.command_ends.specs.Causes.{Text}
use Rattle.command_ends.specs.Outputs.{Output, prints}
use Rattle.command_ends.specs.Readings.{Reading, Done, asked}

-- The number of the generator, and how many packets its load has.
pub record MakeJob : Type 0 where
  pub number : ℕ
  pub packets : ℕ

-- The job of what is given of each option, both of which must be there. The numbers are decimals, and there are 1 to
-- 1,000,000 packets.
unfoldable pub make_from : List (Option Text) → Option MakeJob
make_from (number ∷ packets ∷ []) = do
  given_number ← number
  chosen ← decimal_of given_number
  given_packets ← packets
  count ← number_within 1 1000000 given_packets
  Some (record { number = chosen; packets = count })
make_from _ = None

-- The job of the words after `make`, if they have one.
unfoldable pub make_job_of : List Text → Option MakeJob
make_job_of words = option_and_then make_from (givens (table_of Make) words)

-- The summary of the run that is made of the number is printed.
pub record GivesMake (job : MakeJob) (output : Output) : Type 0 where
  pub text : List ℕ
  pub is : IsSummary job.number job.packets text
  pub output_is : output ≡ prints text

-- Nothing is read, and the job is the task.
abbrev pub make_reading : MakeJob → Reading MakeJob
make_reading job = Done job

-- What `make` refuses, by the words after it.
abbrev pub make_words : List Text → Reading MakeJob
make_words words = asked (make_job_of words) make_reading
