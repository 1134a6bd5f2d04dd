use Rattle.std.proofs.Common.{rules}
use Rattle.mark_channel.proofs.Keeps.{opens}
use Rattle.mark_channel.proofs.channel.open.Goals as goal

pub bounded_with-requires-clause-rule : goal.bounded_with-requires-clause-rule
bounded_with-requires-clause-rule c = opens

pub returns-clause-horizons : goal.returns-clause-horizons
returns-clause-horizons c = search rules
