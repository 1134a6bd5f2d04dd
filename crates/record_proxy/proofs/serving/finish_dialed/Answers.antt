use Rattle.std.proofs.Common.{rules}
use Rattle.record_proxy.proofs.serving.finish_dialed.Goals as goal

pub returns-clause-finished : goal.returns-clause-finished
returns-clause-finished g c = search rules
