use Rattle.std.proofs.Common.{◌≡◌, ℕ, List, map, take}
use Rattle.std.specs.Option.{option_map}
use Rattle.live_relay.specs.Due.{bytes_in}
use Rattle.live_relay.specs.inside.Pieces.{Keeps}
use Rattle.live_relay.specs.Wires.{CountsWireFaults, sending_all}
use Rattle.live_relay.proofs.way.send_packets.Given as goal

abbrev pub invariant-loop-packet : goal.invariant-loop-packet
invariant-loop-packet g l = record {
  told : (all : List (List ℕ)) → Keeps all l.fn.kept → (g.W.Wire.view l.wire).told
      ≡ option_map (sending_all l.side (map (bytes_in all) (take l.packet-index l.packets)))
      (g.W.Wire.view l.fn.wire).told;
  kept : (all : List (List ℕ)) → Keeps all l.fn.kept → Keeps all l.kept;
  asked : (g.W.Wire.view l.wire).asked ≡ (g.W.Wire.view l.fn.wire).asked;
  opened : (g.W.Wire.view l.wire).opened ≡ (g.W.Wire.view l.fn.wire).opened;
  counts : CountsWireFaults (g.W.Wire.view l.fn.wire) (g.W.Wire.view l.wire);
}
