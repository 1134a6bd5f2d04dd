use Rattle.std.proofs.Common.{◌≡◌, ℕ, List}
use Rattle.live_relay.specs.Lines.{number_all}
use Rattle.live_relay.specs.inside.Pieces.{Keeps, has_number, kept_at}
use Rattle.live_relay.proofs.way.Way.forget_lost.Given as goal

abbrev pub invariant-loop-shell : goal.invariant-loop-shell
invariant-loop-shell l = record {
  line : l.self.line ≡ l.fn.self.line;
  sent : l.self.sent ≡ l.fn.self.sent;
  kept : (all : List (List ℕ)) → Keeps all l.fn.kept → Keeps all l.kept;
  rest : (n : ℕ) → number_all (has_number n) l.fn.self.line.lost ≡ 0 → kept_at l.kept n ≡ kept_at l.fn.kept n;
}
