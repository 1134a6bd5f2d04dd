use Rattle.std.proofs.Common.{◌≤◌, ◌-◌, length, take}
use Rattle.log_report.specs.inside.Places.{AreInBin}
use Rattle.log_report.proofs.series.split_bin.Given as goal

abbrev pub invariant-own : goal.invariant-own
invariant-own l = record {
  within : l.count ≤ length l.entries;
  own : AreInBin l.every l.number (take l.count l.entries);
}

abbrev pub decreases-own : goal.decreases-own
decreases-own l = length l.entries - l.count
