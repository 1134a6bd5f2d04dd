use Rattle.std.proofs.Common.{ℕ, ◌<◌, ◌≤◌, ◌-◌, length, get_or}
use Rattle.request_match.specs.inside.Index.{Entry}
use Rattle.request_match.proofs.starts.first_within.Given as goal

abbrev pub invariant-loop-low : goal.invariant-loop-low
invariant-loop-low l = record {
  bound : l.low ≤ length l.entries;
  inside : l.high ≤ length l.entries;
  below : (k : ℕ) (d : Entry) → k < l.low → (get_or l.entries k d).0 < l.key;
  from : (k : ℕ) (d : Entry) → l.high ≤ k → k < length l.entries → l.key ≤ (get_or l.entries k d).0;
}

abbrev pub decreases-loop-low : goal.decreases-loop-low
decreases-loop-low l = l.high - l.low
