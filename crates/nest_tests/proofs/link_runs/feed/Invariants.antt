use Rattle.std.proofs.Common.{◌≡◌, ◌≤◌}
use Rattle.packet_record.specs.Moments.{AreUpTo}
use Rattle.link_core.specs.Promises.{count_to}
use Rattle.link_core.specs.View.{opps_of}
use Rattle.nest_tests.proofs.link_runs.feed.Given as goal

abbrev pub invariant-feeding : goal.invariant-feeding
invariant-feeding l = record {
  until : l.link.horizon ≡ l.fn.horizon;
  order : AreUpTo l.last l.link.arrivals;
  enough : l.link.burnt ≤ count_to (opps_of l.link) l.last;
}
