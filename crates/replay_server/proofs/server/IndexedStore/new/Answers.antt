use Rattle.std.proofs.Common.{rules}
use Rattle.replay_server.proofs.server.IndexedStore.new.Goals as goal

pub returns : goal.returns
returns c = search rules
