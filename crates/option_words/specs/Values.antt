-- What the values of this crate's types mean.
use Rattle.std.specs.Prelude.{Bool, List, true, false, map, option_map, string_bytes}
use Rattle.option_words.specs.Options.{Opt}
use Rattle.option_words.specs.Shells.{Split}
use Rattle.option_words.specs.declared.options.OptionSpec.{OptionSpec}
use Rattle.option_words.specs.declared.options.ValueSpec.{ValueSpec}
use Rattle.option_words.specs.declared.options.ValueSpec.TheVariants.{Flag, File, Number}
use Rattle.option_words.specs.declared.split.SplitWords.{SplitWords}

abbrev pub takes_value : ValueSpec → Bool
takes_value Flag = false
takes_value File = true
takes_value (Number spec) = true

abbrev pub opt : OptionSpec → Opt
opt o = record { name = o.name.now; takes_value = takes_value o.value }

abbrev pub split_of : SplitWords → Split
split_of words = record {
  given = map (λ o. option_map (λ s. s.now) o) words.given.items;
  shells = map string_bytes words.shells.now;
}
