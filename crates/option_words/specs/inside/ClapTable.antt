-- A table of options as clap's command, and the rows of its matches.
use Rattle.std.specs.Prelude.{true, false, List, [], ◌∷◌, map, Option, Some, None, codes, if◌then◌else◌, fold}
use Rattle.clap.specs.Walk.{Row, Rule, with_default}
use Rattle.clap.specs.Simple.{App, new_app, new_rule, on_top}
use Rattle.clap.specs.declared.builder.action.ArgAction.TheVariants.{Set, SetTrue}
use Rattle.clap.specs.declared.builder.value_parser.ValueParser.TheVariants as vp
use Rattle.clap.specs.declared.builder.value_parser.Reading.TheVariants as reading
use Rattle.clap.specs.declared.parser.matches.ValueSource.TheVariants.{CommandLine}
use Rattle.option_words.specs.Options.{Opt, Text, Use}

-- the argument of an option, as it is written
abbrev pub rule_for : Opt → Rule
rule_for o = record (new_rule o.name) {
  long = Some o.name;
  action = Some (if o.takes_value then Set else SetTrue);
}

abbrev pub bare_app : App
bare_app = on_top (λ s. record s { no_binary_name = true; disable_help_flag = true }) (new_app (codes "mm"))

-- the command of a table
abbrev pub app_for : List Opt → App
app_for table = on_top (λ s. record s { rules = map rule_for table }) bare_app

-- the argument of an option, as clap builds it
abbrev pub rule : Opt → Rule
rule o = record {
  id = o.name;
  long = Some o.name;
  aliases = [];
  short = None;
  short_aliases = [];
  index = None;
  action = Some (if o.takes_value then Set else SetTrue);
  range = Some (if o.takes_value then record { start_inclusive = 1; end_inclusive = 1 }
      else record { start_inclusive = 0; end_inclusive = 0 });
  value_names = 0;
  defaults = if o.takes_value then [] else codes "false" ∷ [];
  missing = if o.takes_value then [] else codes "true" ∷ [];
  trailing_var_arg = false;
  parser = Some (if o.takes_value then vp.String else vp.Bool);
  ignore_case = false;
  required = false;
  is_simple = true;
  is_free = true;
}

abbrev pub rules_of : List Opt → List Rule
rules_of table = map rule table

abbrev pub row_values : Option Text → List Text
row_values None = codes "true" ∷ []
row_values (Some v) = v ∷ []

-- the row of a use
abbrev pub row : Use → Row
row u = record {
  id = u.0;
  values = row_values u.1;
  count = None;
  source = Some CommandLine;
  reading = reading.AsWritten;
}

abbrev pub rows : List Use → List Row
rows us = map row us

-- the rows of a parse that found these uses
abbrev pub rows_for : List Opt → List Use → List Row
rows_for table us = fold with_default (rows us) (rules_of table)
