use Rattle.std.proofs.Common.{rules}
use Rattle.command_stores.proofs.replay_words.read_site_port.Goals as goal

pub returns-in-None : goal.returns-in-None
returns-in-None c = search rules
