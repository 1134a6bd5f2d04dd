use Rattle.std.proofs.Common.{◌≡◌, ◌≤◌, ◌*◌, ◌-◌, ◌++◌, length, map}
use Rattle.packet_record.specs.Loads.{load_from, load_of}
use Rattle.packet_record.specs.Schedules.{said}
use Rattle.packet_record.proofs.LoadLemmas.{IsPart}
use Rattle.packet_record.proofs.load.make_load.Given as goal

abbrev pub invariant-loop-before : goal.invariant-loop-before
invariant-loop-before l = record {
  count : length l.rows.items ≡ l.before;
  low : l.moment ≤ 3 * l.before;
  part : IsPart l.moment l.rows.items;
  whole : map said l.rows.items ++ load_from l.draws l.moment (l.packets - l.before) ≡ load_of l.number l.packets;
}
