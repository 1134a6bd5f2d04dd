-- The numbers that the values of options stand for.
use Rattle.std.specs.Prelude.{ℕ, Option, Some, None, ◌&&◌, nat_le, if◌then◌else◌}
use Rattle.text_base.specs.Numbers.{decimal_of}
use Rattle.option_words.specs.Options.{Text}
use Rattle.option_words.specs.Givens.{◌>>=◌}

-- the number, if it is from the least to the most
abbrev pub within : ℕ → ℕ → ℕ → Option ℕ
within least most number = if nat_le least number && nat_le number most then Some number else None

-- the number that a value stands for, if it is a decimal within these
unfoldable pub number_within : ℕ → ℕ → Text → Option ℕ
number_within least most text = do
  number ← decimal_of text
  within least most number

-- the port that a value stands for
abbrev pub port_of : Text → Option ℕ
port_of text = number_within 1 65535 text

-- the seed, which is 0 where none is given
abbrev pub seed_of : Option Text → Option ℕ
seed_of None = Some 0
seed_of (Some text) = decimal_of text
