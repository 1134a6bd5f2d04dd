use Rattle.std.proofs.Common.{◌≡◌, drop, take}
use Rattle.packet_record.specs.declared.item.FlowEnd.TheVariants.{Open}
use Rattle.packet_record.specs.Orders.{AreWithin}
use Rattle.packet_record.specs.Rows.{Rises, entering}
use Rattle.nest_spec.specs.Nests.{directions_of}
use Rattle.live_relay.proofs.way.Way.over.Given as goal

abbrev pub invariant-rows : goal.invariant-rows
invariant-rows l = record {
  specs : l.way.line.specs ≡ directions_of l.direction l.nest;
  horizon : l.way.line.horizon ≡ l.nest.horizon;
  packets : l.way.line.fed.packets ≡ entering l.direction l.nest.horizon (take l.row-index l.rows);
  going : l.way.line.fed.end ≡ Open;
  rises : Rises l.way.line.fed.bound (drop l.row-index l.rows);
  within : AreWithin l.nest.horizon (drop l.row-index l.rows);
}
