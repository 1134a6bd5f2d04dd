-- What words that are refused leave alone.
use Rattle.std.specs.Prelude.{◌≡◌, Some}
use Rattle.command_ends.specs.Readings.{Reading, refused_first}
use Rattle.command_ends.specs.declared.cause.Refusal.TheVariants.{Words}
use Rattle.command_ends.specs.declared.cause.WordsRefusal.{WordsRefusal}

-- Where words are refused before any file is read, this of the outside is left as it was, in every count.
abbrev pub IsLeftAlone : {A V : Type 0} → Reading A → V → V → Type 0
IsLeftAlone reading old new = (refusal : WordsRefusal) → refused_first reading ≡ Some (Words refusal) → new ≡ old
