-- Beside Options, for proofs alone: the option words of a command.
use Rattle.std.specs.Prelude.{◌&&◌, ◌||◌, Bool, true, drop, Option, Some}
use Rattle.std.specs.Prelude.{None}
use Rattle.option_words.specs.Options.{Text, is_value, name_and_value, is_option_word}

-- a word that can stand among options: a value, or `--name` with perhaps `=` and a value
abbrev pub is_good : Option Text → Bool
is_good None = true
is_good (Some v) = is_value v

abbrev pub is_fit : Text → Bool
is_fit word = is_value word || (is_option_word word && is_good (name_and_value (drop 2 word)).1)
