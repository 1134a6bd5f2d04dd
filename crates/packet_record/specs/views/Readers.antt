-- What contracts see of a reader of a schedule.
use Rattle.packet_record.specs.Reading.{Reading}
use Rattle.packet_record.specs.declared.reading.ScheduleReader.TheInside.{Inside}

abbrev pub reader_view : Inside → Reading
reader_view r = record { rows = r.rows; low = r.low; refused = r.refused }
