use Rattle.std.proofs.Common.{rules}
use Rattle.mark_channel.proofs.begun.Begun.wait.Goals as goal

pub returns-clause-broken : goal.returns-clause-broken
returns-clause-broken g c = search rules
