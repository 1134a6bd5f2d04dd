-- What the matches of a parse hold of an option.
use Rattle.std.specs.Prelude.{◌≡◌, true, false, List, Some, codes, if◌then◌else◌}
use Rattle.clap.specs.Matches.{first_value, found_of, one_text}
use Rattle.clap.specs.declared.parser.matches.ArgMatches.{ArgMatches}
use Rattle.option_words.specs.Options.{Opt, Use, is_used, value_of}

pub record HoldsUses (m : ArgMatches) (us : List Use) (o : Opt) : Type 0 where
  pub value : o.takes_value ≡ true → first_value (found_of m) o.name ≡ value_of o.name us
  pub flag : o.takes_value ≡ false → one_text (found_of m) o.name ≡ Some (if is_used o.name us then codes "true"
      else codes "false")
