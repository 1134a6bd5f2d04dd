-- For proofs alone: what the words of a link gave, as the definitions of the grammar have it.
use Rattle.std.specs.Prelude.{Option, Some, None, map, string_bytes}
use Rattle.std.specs.Borrow.{Bor}
use Rattle.nest_spec.specs.Words.{Text, SideGiven, LinkGiven, OptionRead, option_read, LinkRead, link_read}
use Rattle.nest_spec.specs.declared.link_words.SideWords.{SideWords}
use Rattle.nest_spec.specs.declared.link_words.LinkWords.{LinkWords}
use Rattle.nest_spec.specs.declared.link_words.OptionWords.{OptionWords}
use Rattle.nest_spec.specs.declared.link_words.LinkRest.{LinkRest}

-- A word as its bytes.
abbrev pub text_of : Option (Bor Text) → Option Text
text_of None = None
text_of (Some text) = Some text.now

-- What is given in one direction.
abbrev pub side_given : SideWords → SideGiven
side_given s = record { trace = text_of s.trace; log = text_of s.log; queue = text_of s.queue; args = text_of s.args }

-- What is given in both directions.
abbrev pub link_given : LinkWords → LinkGiven
link_given g = record { once = g.once; up = side_given g.up; down = side_given g.down }

-- What an option's word gives.
abbrev pub option_given : OptionWords → OptionRead
option_given o = option_read (link_given o.given) o.waiting

-- What a link was given, and the words that follow.
abbrev pub rest_given : LinkRest → LinkRead
rest_given r = link_read (link_given r.given) r.place (map string_bytes r.rest.now)
