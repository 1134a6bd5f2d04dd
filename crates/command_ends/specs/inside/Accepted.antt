-- Beside Alone, for proofs alone: words that are accepted.
use Rattle.std.specs.Prelude.{◌≢◌, Some}
use Rattle.command_ends.specs.Readings.{Reading, refused_first}
use Rattle.command_ends.specs.declared.cause.Refusal.TheVariants.{Words}
use Rattle.command_ends.specs.declared.cause.WordsRefusal.{WordsRefusal}

-- No words are refused before a file is read.
abbrev pub AcceptsWords : {A : Type 0} → Reading A → Type 0
AcceptsWords reading = (refusal : WordsRefusal) → refused_first reading ≢ Some (Words refusal)
