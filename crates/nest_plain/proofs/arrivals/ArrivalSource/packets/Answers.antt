use Rattle.std.proofs.Common.{◌∙◌, ap, subst, sym}
use Rattle.packet_record.specs.Moments.{AreUpTo, Rise}
use Rattle.packet_record.specs.Rows.{entering}
use Rattle.packet_record.proofs.RowsLemmas.{rise-entering, rises-in_order, up_to-entering}
use Rattle.nest_plain.proofs.arrivals.ArrivalSource.packets.Goals as goal

pub returns-clause-rise : goal.returns-clause-rise
returns-clause-rise c =
    let entry = c.args.self.now in
    subst Rise (sym (c.in_ok-packets.ensures ∙ ap (entering entry.direction entry.horizon) c.rows-rows.ensures.rows))
    (rise-entering entry.direction entry.horizon 0 entry.schedule
    (rises-in_order 1 0 entry.schedule c.rows-rows.ensures.schedule.order))

pub returns-clause-within : goal.returns-clause-within
returns-clause-within c =
    let entry = c.args.self.now in
    subst (AreUpTo entry.horizon)
    (sym (c.in_ok-packets.ensures ∙ ap (entering entry.direction entry.horizon) c.rows-rows.ensures.rows))
    (up_to-entering entry.direction entry.horizon entry.schedule)
