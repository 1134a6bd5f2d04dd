use Rattle.std.proofs.Common.{rules}
use Rattle.nest_runner.proofs.feeds.end_of_feed.Goals as goal

pub returns-in-OutOfMemory : goal.returns-in-OutOfMemory
returns-in-OutOfMemory c = search rules
