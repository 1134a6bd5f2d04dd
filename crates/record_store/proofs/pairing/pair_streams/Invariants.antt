use Rattle.std.proofs.Common.{◌≡◌, ◌≤◌, ◌++◌, length, drop}
use Rattle.std.specs.Vec.Iter.{into_iter_items, into_iter_len}
use Rattle.record_store.specs.Pairs.{AreAnswers}
use Rattle.record_store.proofs.pairing.pair_streams.Given as goal

abbrev pub invariant-answers : goal.invariant-answers
invariant-answers l = record {
  order : l.yielded ++ into_iter_items l.request-iterator ≡ into_iter_items l.initial.request-iterator;
  count : into_iter_len l.request-iterator ≡ length (into_iter_items l.request-iterator);
  inside : l.place ≤ length l.server;
  answers : AreAnswers l.port l.server l.yielded l.store (drop l.place l.server);
}
