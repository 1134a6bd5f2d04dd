use Rattle.std.proofs.Common.{rules}
use Rattle.nest_runner.proofs.feeds.feed_begun.Goals as goal

pub returns-then-is_err-clause-sent : goal.returns-then-is_err-clause-sent
returns-then-is_err-clause-sent g c = search rules
