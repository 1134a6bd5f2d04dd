use Rattle.std.specs.Prelude.{All}
use Rattle.request_match.specs.inside.Index.{IsEntry, HasAllTo}
use Rattle.request_match.proofs.index_entries.entries_of.Given as goal

abbrev pub invariant-loop-place : goal.invariant-loop-place
invariant-loop-place l = record {
  entries : All (IsEntry l.records l.port) l.entries.items;
  whole : HasAllTo l.records l.port l.place l.entries.items;
}
