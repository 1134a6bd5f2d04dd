use Rattle.replay_server.proofs.StepLemmas.{no_memory_at_first}
use Rattle.replay_server.proofs.session.hold.Goals as goal

pub returns-in-Err-clause-served : goal.returns-in-Err-clause-served
returns-in-Err-clause-served g c = no_memory_at_first _
