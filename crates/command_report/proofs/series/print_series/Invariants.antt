use Rattle.std.proofs.Common.{◌≡◌, ◌++◌, ℕ, List, length}
use Rattle.std.specs.List.{flat_map}
use Rattle.mm_base.specs.Sink.{sending, CountsSinkFaults}
use Rattle.log_report.specs.Series.{still_of}
use Rattle.log_report.specs.SeriesText.{bin_line, series_text}
use Rattle.command_report.proofs.series.print_series.Given as goal

abbrev pub invariant-bins : goal.invariant-bins
invariant-bins g l = record {
  so_far : (sent : List ℕ)
      × (series_text l.every l.log.entries ≡ sent ++ (l.text ++ flat_map bin_line (still_of l.series)))
      × ((g.O.Sink.view l.out).written ≡ sending sent (g.O.Sink.view l.fn.out).written);
  counts : CountsSinkFaults (g.O.Sink.view l.fn.out) (g.O.Sink.view l.out);
}

abbrev pub decreases-bins : goal.decreases-bins
decreases-bins g l = length (still_of l.series)
