-- What option words give of each option of a table.
use Rattle.std.specs.Prelude.{true, false, List, [], Option, Some, None, option_map}
use Rattle.std.specs.Prelude.{option_and_then, map, if◌then◌else◌}
use Rattle.option_words.specs.Options.{Opt, Text, Use, is_used, options, value_of}

-- the value of an option, the empty text for a flag that stands there, or nothing
abbrev pub given : List Use → Opt → Option Text
given us o = if o.takes_value then value_of o.name us else (if is_used o.name us then Some [] else None)

-- what is given of each option, in the order of the table, where the words are its options, each at most once
abbrev pub givens : List Opt → List Text → Option (List (Option Text))
givens table words = option_map (λ us. map (given us) table) (options table words)

-- an option that takes a value, and one that takes none
abbrev pub valued : Text → Opt
valued name = record { name = name; takes_value = true }

abbrev pub flag : Text → Opt
flag name = record { name = name; takes_value = false }

infixl 10 ◌>>=◌
abbrev pub ◌>>=◌ : {A B : Type 0} → Option A → (A → Option B) → Option B
o >>= f = option_and_then f o
