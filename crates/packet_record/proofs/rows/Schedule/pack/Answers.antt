use Rattle.std.proofs.Common.{subst, sym}
use Rattle.packet_record.specs.Orders.{AreWithin}
use Rattle.packet_record.proofs.OrdersLemmas.{within_read}
use Rattle.packet_record.proofs.rows.Schedule.pack.Goals as goal

pub new-requires : goal.new-requires
new-requires c =
    within_read 9999999999 _ c.loop-row.row-index c.row-item.result c.loop-row-test.true c.row-item.is
    (subst (AreWithin 9999999999) (sym c.as_slice-row-items.ensures.value) c.self.invariant.within)
