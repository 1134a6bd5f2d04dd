use Rattle.std.proofs.Common.{ap}
use Rattle.std.specs.Result.{result_ok}
use Rattle.command_ends.proofs.AloneLemmas.{alone_job, unrefused}
use Rattle.record_proxy.specs.Proxying.{proxy_reading}
use Rattle.record_proxy.specs.inside.Values.{proxy_values}
use Rattle.record_proxy.proofs.command.answer.Goals as goal

pub returns-in-Ok-clause-alone : goal.returns-in-Ok-clause-alone
returns-in-Ok-clause-alone g c =
    alone_job proxy_values _ _ _ proxy_reading _ _ (ap result_ok c.in-Ok.is) c.in_ok-job.ensures (unrefused _ _)
