-- What contracts see of a log that is read piece by piece.
use Rattle.shell_log.specs.LogParts.{LogPart}
use Rattle.shell_log.specs.declared.parser.LogParser.TheInside.{Inside}

abbrev pub parser_view : Inside → LogPart
parser_view t = record { has_begun = t.has_begun; entries = t.entries; last = t.last; refused = t.refused; kept = t.kept }
