use Rattle.std.proofs.Common.{rules}
use Rattle.command_relay.proofs.line.end_words.Goals as goal

pub returns-in-Turns : goal.returns-in-Turns
returns-in-Turns c = search rules

pub returns-in-User : goal.returns-in-User
returns-in-User c = search rules
