-- The packets that enter a nest, and the log of a link at which they arrive.
use Rattle.std.specs.Prelude.{List}
use Rattle.packet_record.specs.declared.packet.Timed.{Timed}
use Rattle.packet_record.specs.Rows.{entering}
use Rattle.shell_log.specs.declared.entry.Entry.{Entry}
use Rattle.shell_state.specs.declared.spec.DirSpec.{DirSpec}
use Rattle.shell_state.specs.Shells.{whole_log}
use Rattle.nest_plain.specs.declared.arrivals.ArrivalSource.{ArrivalSource}

-- The packets that enter.
abbrev pub entering_by : ArrivalSource → List Timed
entering_by s = entering s.direction s.horizon s.schedule

-- The log of a link at which they arrive.
abbrev pub entries_by : DirSpec → ArrivalSource → List Entry
entries_by spec s = whole_log spec s.horizon (entering_by s)
