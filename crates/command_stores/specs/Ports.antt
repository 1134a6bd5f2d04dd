-- The port of an option.
use Rattle.std.specs.Prelude.{ℕ, Option, Some, None}
use Rattle.std.specs.Option.{option_map}
use Rattle.option_words.specs.Numbers.{port_of}
use Rattle.command_ends.specs.Causes.{Text}

-- the port of an option's text; `Some None` where the option isn't given, and none where its text is no port
abbrev pub given_port : Option Text → Option (Option ℕ)
given_port None = Some None
given_port (Some text) = option_map Some (port_of text)
