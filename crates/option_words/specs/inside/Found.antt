-- What the matches of a parse hold.
use Rattle.std.specs.Prelude.{◌≡◌, List, Option, Some, None}
use Rattle.clap.specs.Walk.{rows_of}
use Rattle.clap.specs.Matches.{found_of}
use Rattle.clap.specs.declared.parser.matches.ArgMatches.{ArgMatches}
use Rattle.option_words.specs.Options.{Opt, Text, Use, options}
use Rattle.option_words.specs.inside.ClapTable.{rows_for}

-- the matches of these words, or none where they spell no uses
abbrev pub IsMatchOf : List Opt → List Text → Option ArgMatches → Type 0
IsMatchOf table words None = options table words ≡ None
IsMatchOf table words (Some m) =
    (us : List Use) × (options table words ≡ Some us) × (rows_of (found_of m) ≡ rows_for table us)
