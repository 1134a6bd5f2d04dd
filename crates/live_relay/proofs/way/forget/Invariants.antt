use Rattle.std.proofs.Common.{◌≡◌, ◌≤◌, ℕ, List, None, take}
use Rattle.packet_record.specs.Packets.{number}
use Rattle.live_relay.specs.inside.Pieces.{Keeps, has_number, kept_at}
use Rattle.live_relay.proofs.way.forget.Given as goal

abbrev pub invariant-loop-packet : goal.invariant-loop-packet
invariant-loop-packet l = record {
  kept : (all : List (List ℕ)) → Keeps all l.fn.kept → Keeps all l.kept;
  gone : (n : ℕ) → 1 ≤ number (has_number n) (take l.packet-index l.packets) → kept_at l.kept n ≡ None;
  rest : (n : ℕ) → number (has_number n) (take l.packet-index l.packets) ≡ 0 → kept_at l.kept n ≡ kept_at l.fn.kept n;
}
