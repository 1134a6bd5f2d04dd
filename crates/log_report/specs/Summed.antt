-- What sums over entries mean.
use Rattle.std.specs.Prelude.{◌≡◌, ℕ, List, length, Option}
use Rattle.std.specs.List.{filter_map}
use Rattle.shell_log.specs.declared.entry.Entry.{Entry}
use Rattle.shell_log.specs.LogParts.{last_moment}
use Rattle.log_report.specs.declared.sums.Sum.{Sum}
use Rattle.log_report.specs.declared.sums.Sums.{Sums}
use Rattle.log_report.specs.Reports.{arrived_bytes, offered_bytes, departed_bytes, delay_of, dropped_packets}
use Rattle.log_report.specs.Reports.{dropped_bytes, count_in, sum_in, first_moment}
use Rattle.log_report.specs.Counted.{AreCounts}

-- How many entries there are, and the moments of the first and the last.
abbrev pub ArePassed : List Entry → ℕ → ℕ → ℕ → Type 0
ArePassed es entries first last = (entries ≡ length es) × (first ≡ first_moment es) × (last ≡ last_moment es)

-- How many entries are of the kind for which `said` gives a number, and the sum of these numbers.
abbrev pub IsSum : (Entry → Option ℕ) → List Entry → Sum → Type 0
IsSum said es s = (s.count ≡ count_in said es) × (s.bytes ≡ sum_in said es)

-- How many packets and bytes the drops have together.
abbrev pub AreDrops : List Entry → Sum → Type 0
AreDrops es s = (s.count ≡ sum_in dropped_packets es) × (s.bytes ≡ sum_in dropped_bytes es)

-- The sums are those of the entries.
pub record AreSums (es : List Entry) (s : Sums) : Type 0 where
  pub passed : ArePassed es s.entries s.first s.last
  pub arrived : IsSum arrived_bytes es s.arrived
  pub offered : IsSum offered_bytes es s.offered
  pub departed : IsSum departed_bytes es s.departed
  pub dropped : AreDrops es s.dropped
  pub delays : AreCounts (filter_map delay_of es) s.delays
