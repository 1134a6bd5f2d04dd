-- Beside Givens, for proofs alone: what option words give of each option of a table.
use Rattle.std.specs.Prelude.{Bool, true, not, ◌&&◌, List, [], ◌∷◌}
use Rattle.std.specs.List.{list_any}
use Rattle.std.specs.Str.{bytes_eq}
use Rattle.option_words.specs.Options.{Opt}

-- no two options have one name
abbrev pub differ : List Opt → Bool
differ [] = true
differ (o ∷ table) = not (list_any (λ p. bytes_eq o.name p.name) table) && differ table
