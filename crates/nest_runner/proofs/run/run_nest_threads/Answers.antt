use Rattle.std.proofs.Common.{sym, subst}
use Rattle.packet_record.specs.Rows.{Rises}
use Rattle.packet_record.proofs.RowsLemmas.{rises-in_order}
use Rattle.nest_runner.proofs.run.run_nest_threads.Goals as goal

pub run_rows-requires-clause-rises : goal.run_rows-requires-clause-rises
run_rows-requires-clause-rises g c = λ _ _. subst (Rises 0) (sym c.rows-rows.ensures.rows)
    (rises-in_order 1 0 c.args.schedule.now c.rows-rows.ensures.schedule.order)
