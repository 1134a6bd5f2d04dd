-- A row in 12 bytes as contracts see it.
use Rattle.std.specs.Prelude.{◌+◌, ◌*◌, ◌/◌, ◌%◌, ◌==◌, if◌then◌else◌}
use Rattle.packet_record.specs.declared.packet.Row.{Row}
use Rattle.packet_record.specs.declared.packet.Direction.TheVariants.{Up, Down}
use Rattle.packet_record.specs.declared.packed_row.PackedRow.TheInside.{Inside}

-- `rest` holds the size, 2048 for down, and 4096 times the part of the moment that `low` has no room for.
abbrev pub packed_row : Inside → Row
packed_row p = record {
  direction = if p.rest / 2048 % 2 == 0 then Up else Down;
  timed = record {
    moment = p.rest / 4096 * 4294967296 + p.low;
    packet = record {
      id = p.id;
      size = p.rest % 2048;
      some = p.some;
      most = p.most;
    };
  };
}
