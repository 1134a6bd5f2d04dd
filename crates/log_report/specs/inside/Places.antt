-- For proofs alone: where the entries of a bin stand in a log.
use Rattle.std.specs.Prelude.{◌≡◌, ℕ, ◌-◌, ◌/◌, List, [], ◌∷◌}
use Rattle.shell_log.specs.declared.entry.Entry.{Entry}
use Rattle.shell_log.specs.Entries.{moment_of}
use Rattle.log_report.specs.declared.bins.Bin.{Bin}
use Rattle.log_report.specs.Bins.{bins_from, bin_count}

-- Each entry is in this bin.
abbrev pub AreInBin : ℕ → ℕ → List Entry → Type 0
AreInBin every number [] = Unit {0}
AreInBin every number (e ∷ es) = (moment_of e / every ≡ number) × AreInBin every number es

-- The bins of these entries from this one on.
abbrev pub bins_left : ℕ → ℕ → List Entry → List Bin
bins_left every number es = bins_from every number (bin_count every es - number) es
