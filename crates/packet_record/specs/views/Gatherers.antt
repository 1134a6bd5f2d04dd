-- What contracts see of gathered rows.
use Rattle.packet_record.specs.Gathered.{Gathered}
use Rattle.packet_record.specs.views.Gathered.{gathered}
use Rattle.packet_record.specs.declared.gathering.ScheduleRows.TheInside.{Inside}

abbrev pub rows_view : Inside → Gathered
rows_view r = gathered r.rows.items r.low r.refused
