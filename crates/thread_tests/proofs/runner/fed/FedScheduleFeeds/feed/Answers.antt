use Rattle.std.proofs.Common.{subst, sym}
use Rattle.packet_record.specs.Rows.{Rises}
use Rattle.packet_record.proofs.RowsLemmas.{rises-in_order}
use Rattle.thread_tests.proofs.runner.fed.FedScheduleFeeds.feed.Goals as goal

pub source-requires-clause-rises : goal.source-requires-clause-rises
source-requires-clause-rises g c = subst (Rises 0) (sym c.rows.ensures.rows)
    (rises-in_order 1 0 c.args.self.now.schedule c.rows.ensures.schedule.order)
