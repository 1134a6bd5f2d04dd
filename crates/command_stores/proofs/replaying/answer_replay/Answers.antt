use Rattle.std.proofs.Common.{ap}
use Rattle.std.specs.Result.{result_ok}
use Rattle.command_ends.proofs.AloneLemmas.{alone_job, unrefused}
use Rattle.command_stores.specs.Replaying.{replay_reading}
use Rattle.command_stores.specs.inside.Values.{replay_values}
use Rattle.command_stores.proofs.replaying.answer_replay.Goals as goal

pub returns-in-Ok-clause-alone : goal.returns-in-Ok-clause-alone
returns-in-Ok-clause-alone g c =
    alone_job replay_values _ _ _ replay_reading _ _ (ap result_ok c.in-Ok.is) c.in_ok-job.ensures (unrefused _ _)
