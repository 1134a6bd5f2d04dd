-- Words that have options and then, after the first `--`, shells.
use Rattle.std.specs.Prelude.{ℕ, ◌+◌, Bool, List, Option, Some, None, codes, position, take, drop, option_map}
use Rattle.std.specs.Str.{bytes_eq}
use Rattle.option_words.specs.Givens.{givens}
use Rattle.option_words.specs.Options.{Opt, Text}

-- The word that ends the options.
abbrev pub ends_options : Text → Bool
ends_options word = bytes_eq word (codes "--")

-- What is given of each option, and the words of the shells.
pub record Split : Type 0 where
  pub given : List (Option Text)
  pub shells : List Text

abbrev pub split_at : List Opt → Option ℕ → List Text → Option Split
split_at table None words = None
split_at table (Some place) words =
    option_map (λ given. record { given = given; shells = drop (place + 1) words }) (givens table (take place words))

-- The first `--` ends the options and must be there: the words before it are options, those after it are the shells'.
unfoldable pub split_words : List Opt → List Text → Option Split
split_words table words = split_at table (position ends_options words) words
