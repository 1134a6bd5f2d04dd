use Rattle.std.proofs.Common.{◌≤◌, ◌-◌, length, drop}
use Rattle.http_frame.specs.Runs.{AreRequests}
use Rattle.record_store.proofs.pairing.requests_of.Given as goal

abbrev pub invariant-requests : goal.invariant-requests
invariant-requests l = record {
  inside : l.place ≤ length l.client;
  whole : AreRequests l.client l.requests.items (drop l.place l.client);
}

abbrev pub decreases-requests : goal.decreases-requests
decreases-requests l = length l.client - l.place
