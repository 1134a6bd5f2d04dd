use Rattle.mark_channel.proofs.Keeps.{forks}
use Rattle.mark_channel.proofs.channel.split.Goals as goal

pub another-requires-clause-rule : goal.another-requires-clause-rule
another-requires-clause-rule g c = forks _ _ _ c.requires.first
