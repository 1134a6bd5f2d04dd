-- Names that stand twice.
use Rattle.std.specs.Prelude.{Bool, List, [], ◌∷◌, ◌++◌, Option, Some, None, if◌then◌else◌}
use Rattle.std.specs.List.{list_any}
use Rattle.std.specs.Str.{bytes_eq}
use Rattle.command_ends.specs.Causes.{Text}
use Rattle.command_ends.specs.declared.cause.Refusal.{Refusal}
use Rattle.command_ends.specs.declared.cause.Refusal.TheVariants.{Words}
use Rattle.command_ends.specs.declared.cause.WordsRefusal.TheVariants.{Name}

abbrev pub stands_in : List Text → Text → Bool
stands_in names name = list_any (λ other. bytes_eq other name) names

-- the first of these names that is taken, or that one of them before it has
abbrev pub first_taken : List Text → List Text → Option Text
first_taken taken [] = None
first_taken taken (name ∷ names) = if stands_in taken name then Some name else first_taken (taken ++ name ∷ []) names

-- The first output that has the name of an input, or of an earlier output, is refused.
abbrev pub refused_name : Option Text → Option Refusal
refused_name None = None
refused_name (Some name) = Some (Words (Name name))

unfoldable pub refused_names : List Text → List Text → Option Refusal
refused_names inputs outputs = refused_name (first_taken inputs outputs)
