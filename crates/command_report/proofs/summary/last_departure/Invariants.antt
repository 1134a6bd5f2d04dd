use Rattle.std.proofs.Common.{◌≡◌, drop}
use Rattle.std.specs.List.{fold}
use Rattle.command_report.specs.Summaries.{departures, greatest, or_greater}
use Rattle.command_report.proofs.summary.last_departure.Given as goal

abbrev pub invariant-loop-row : goal.invariant-loop-row
invariant-loop-row l = fold or_greater l.last (departures (drop l.row-index l.fates)) ≡ greatest (departures l.fates)
