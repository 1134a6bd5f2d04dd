-- For proofs alone: counts of delays once the long ones are sorted.
use Rattle.std.specs.Prelude.{◌≡◌, ℕ, ◌<◌, List, length, slice_index}
use Rattle.std.specs.Prelude.{IsPermutation, IsSorted}
use Rattle.std.specs.Ordering.{nat_cmp}
use Rattle.log_report.specs.declared.delays.DelayCounts.{DelayCounts}
use Rattle.log_report.specs.declared.delays.TheConstants.{SHORT}
use Rattle.log_report.specs.Counted.{times, long_ones}

-- The counts are those of the delays, and the long delays are sorted.
pub record AreRanked (delays : List ℕ) (c : DelayCounts) : Type 0 where
  pub count : c.count ≡ length delays
  pub short : (d : ℕ) → d < SHORT → slice_index c.short.items d ≡ times delays d
  pub long : IsPermutation (long_ones delays) c.long.items
  pub sorted : IsSorted nat_cmp c.long.items
