-- For proofs alone: what the sums of a bin mean, and where the entries of a bin stand in a log.
use Rattle.std.specs.Prelude.{◌≡◌, ℕ, ◌≤◌, ◌/◌, List, [], ◌∷◌, length}
use Rattle.std.specs.List.{filter_map}
use Rattle.shell_log.specs.declared.entry.Entry.{Entry}
use Rattle.shell_log.specs.Entries.{moment_of}
use Rattle.log_report.specs.declared.bins.BinSums.{BinSums}
use Rattle.log_report.specs.Reports.{arrived_bytes, offered_bytes, departed_bytes, delay_of, dropped_packets, sum_in}

-- The sums are those of the entries.
pub record AreBinSums (es : List Entry) (s : BinSums) : Type 0 where
  pub entries : s.entries ≡ length es
  pub offered : s.offered ≡ sum_in offered_bytes es
  pub arrived : s.arrived ≡ sum_in arrived_bytes es
  pub departed : s.departed ≡ sum_in departed_bytes es
  pub dropped : s.dropped ≡ sum_in dropped_packets es
  pub delays : s.delays.items ≡ filter_map delay_of es
