use Rattle.std.proofs.Common.{rules}
use Rattle.mm_base.proofs.std_sink.StdSinkSink.write.Goals as goal

pub returns-in-Ok-clause-known : goal.returns-in-Ok-clause-known
returns-in-Ok-clause-known g c = search rules
