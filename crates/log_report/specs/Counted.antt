-- What counts of delays mean.
use Rattle.std.specs.Prelude.{◌≡◌, ℕ, ◌<◌, ◌==◌, List, length, nat_le, filter, count_by, slice_index}
use Rattle.log_report.specs.declared.delays.DelayCounts.{DelayCounts}
use Rattle.log_report.specs.declared.delays.TheConstants.{SHORT}

-- How often `delay` is among the delays.
abbrev pub times : List ℕ → ℕ → ℕ
times delays delay = count_by (λ x. x == delay) delays

-- The delays that aren't counted by value.
abbrev pub long_ones : List ℕ → List ℕ
long_ones delays = filter (λ x. nat_le SHORT x) delays

-- The counts are those of the delays: how many there are, how often each short one came, and the long ones.
pub record AreCounts (delays : List ℕ) (c : DelayCounts) : Type 0 where
  pub count : c.count ≡ length delays
  pub short : (d : ℕ) → d < SHORT → slice_index c.short.items d ≡ times delays d
  pub long : c.long.items ≡ long_ones delays
