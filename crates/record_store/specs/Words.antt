-- The words of a line, which are parted by single spaces.
use Rattle.std.specs.Prelude.{ℕ, List}
use Rattle.std.specs.List.{join_with_byte}

-- The words with a space between each two.
abbrev pub spaced : List (List ℕ) → List ℕ
spaced words = join_with_byte 32 words
