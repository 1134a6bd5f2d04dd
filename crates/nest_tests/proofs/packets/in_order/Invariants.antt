use Rattle.std.proofs.Common.{◌≤◌}
use Rattle.packet_record.specs.Moments.{AreUpTo, Rise}
use Rattle.nest_tests.proofs.packets.in_order.Given as goal

abbrev pub invariant-packets : goal.invariant-packets
invariant-packets _ l = record {
  rises : Rise l.list.items;
  order : AreUpTo l.last l.list.items;
  within : l.last ≤ l.horizon;
}
