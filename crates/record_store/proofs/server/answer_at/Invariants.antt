use Rattle.std.proofs.Common.{◌≤◌, ◌-◌, length, drop}
use Rattle.record_store.specs.Pairs.{AfterInterim}
use Rattle.record_store.proofs.server.answer_at.Given as goal

abbrev pub invariant-interim : goal.invariant-interim
invariant-interim l = record {
  inside : l.place ≤ length l.bytes;
  passed : AfterInterim l.to_head l.bytes (drop l.place l.bytes);
}

abbrev pub decreases-interim : goal.decreases-interim
decreases-interim l = length l.bytes - l.place
