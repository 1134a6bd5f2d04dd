use Rattle.std.proofs.Common.{◌≡◌, ◌+◌, ◌*◌, ◌≤◌, drop}
use Rattle.command_report.specs.Summaries.{departed_bytes}
use Rattle.command_report.proofs.summary.sum_departed.Given as goal

abbrev pub invariant-loop-i : goal.invariant-loop-i
invariant-loop-i l = record {
  most : l.bytes ≤ 65535 * l.i;
  whole : l.bytes + departed_bytes (drop l.i l.rows) (drop l.i l.fates) ≡ departed_bytes l.rows l.fates;
}
