-- The words of `make` are refused by themselves.
use Rattle.std.proofs.Common.{List}
use Rattle.command_ends.specs.Causes.{Text}
use Rattle.command_ends.proofs.ReadingLemmas.{RefusesWordsFirst, asked_first}
use Rattle.command_report.specs.Make.{make_job_of, make_reading, make_words}

pub make_words_first : (words : List Text) → RefusesWordsFirst (make_words words)
make_words_first words = asked_first (make_job_of words) make_reading (λ job. tt)
