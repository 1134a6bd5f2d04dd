-- What contracts see of a schedule that is read piece by piece.
use Rattle.packet_record.specs.PartsRead.{PartRead}
use Rattle.packet_record.specs.declared.parser.ScheduleParser.TheInside.{Inside}

abbrev pub parser_view : Inside → PartRead
parser_view t = record { gathered = t.rows; kept = t.kept }
