use Rattle.packet_record.proofs.RowsLemmas.{rises-in_order}
use Rattle.nest_spec.proofs.Scheduled.{apart}
use Rattle.thread_tests.proofs.runner.fed.FedScheduleFeeds.rows.Goals as goal

pub returns-clause-apart : goal.returns-clause-apart
returns-clause-apart c = apart c.args.self.now.schedule c.rows.ensures.schedule.order

pub returns-clause-rises : goal.returns-clause-rises
returns-clause-rises c = rises-in_order 1 0 c.args.self.now.schedule c.rows.ensures.schedule.order
