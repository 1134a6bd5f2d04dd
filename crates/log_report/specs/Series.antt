-- What a series still has to give.
use Rattle.std.specs.Prelude.{◌-◌, List}
use Rattle.log_report.specs.declared.bins.Bin.{Bin}
use Rattle.log_report.specs.declared.series.Series.{Series}
use Rattle.log_report.specs.Bins.{bin_count, bins_from}

-- The bins that are still to come.
abbrev pub still_of : Series → List Bin
still_of s = bins_from s.every s.number (bin_count s.every s.rest.now - s.number) s.rest.now
