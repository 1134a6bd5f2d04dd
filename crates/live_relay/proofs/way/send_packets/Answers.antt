use Rattle.std.proofs.Common.{◌≡◌, ◌∙◌, ℕ, List, [], ◌∷◌, ap, arith, map, option_map, sym, take}
use Rattle.std.proofs.lemmas.List.{take_all}
use Rattle.mm_base.proofs.Then.{CountsFaults-then}
use Rattle.packet_record.specs.declared.packet.Timed.{Timed}
use Rattle.live_relay.specs.Due.{bytes_in}
use Rattle.live_relay.specs.Wires.{sending_all}
use Rattle.live_relay.proofs.PieceLemmas.{keeps_rest}
use Rattle.live_relay.proofs.Results.{on_err_any}
use Rattle.live_relay.proofs.SendLemmas.{same_map, stopped_at, told_one}
use Rattle.live_relay.proofs.way.send_packets.Goals as goal

pub returns-in_default-clause-err : goal.returns-in_default-clause-err
returns-in_default-clause-err g c = λ all keeps.
    stopped_at c.args.side (bytes_in all) c.args.packets.now c.loop-packet.packet-index
    (g.W.Wire.view c.args.wire.now).told (g.W.Wire.view c.loop-packet.wire).told
    (c.loop-packet.invariant.told all keeps)

pub returns-in_default-clause-kept : goal.returns-in_default-clause-kept
returns-in_default-clause-kept g c = λ all keeps.
    keeps_rest all c.packet-item.result.packet.id c.loop-packet.kept c.take.new.self c.take.ensures.rest
    (c.loop-packet.invariant.kept all keeps)

pub returns-in_err-send-clause-err : goal.returns-in_err-send-clause-err
returns-in_err-send-clause-err g c = on_err_any _ c.from_residual.result
    (λ all keeps. stopped_at c.args.side (bytes_in all) c.args.packets.now c.loop-packet.packet-index
    (g.W.Wire.view c.args.wire.now).told (g.W.Wire.view c.send.new.self).told
    (c.in_err-send.ensures.told ∙ same_map (g.W.Wire.view c.loop-packet.wire).told
    ∙ c.loop-packet.invariant.told all keeps))

pub returns-in_err-send-clause-kept : goal.returns-in_err-send-clause-kept
returns-in_err-send-clause-kept g c = λ all keeps.
    keeps_rest all c.packet-item.result.packet.id c.loop-packet.kept c.take.new.self c.take.ensures.rest
    (c.loop-packet.invariant.kept all keeps)

pub loop-packet-preserved : goal.loop-packet-preserved
loop-packet-preserved g c =
    let before = c.loop-packet.invariant in
    record {
      told = λ all keeps.
          let piece : c.as_slice.result.now ≡ bytes_in all c.packet-item.result =
          c.as_slice.ensures
          ∙ (before.kept all keeps c.packet-item.result.packet.id c.in-Some.bytes
          (sym c.in-Some.ensures.found)).bytes_are
          in
          told_one c.args.side (bytes_in all) c.args.packets.now c.loop-packet.packet-index c.packet-item.result
          (g.W.Wire.view c.args.wire.now).told (g.W.Wire.view c.loop-packet.wire).told
          (g.W.Wire.view c.send.new.self).told c.loop-packet-test.true c.packet-item.is (before.told all keeps)
          (c.in_ok-send.ensures.told ∙ ap (λ (p : List ℕ). option_map (sending_all c.args.side (p ∷ []))
          (g.W.Wire.view c.loop-packet.wire).told) piece);
      kept = λ all keeps. keeps_rest all c.packet-item.result.packet.id c.loop-packet.kept c.take.new.self
          c.take.ensures.rest (before.kept all keeps);
      asked = c.in_ok-send.ensures.asked ∙ before.asked;
      opened = c.in_ok-send.ensures.opened ∙ before.opened;
      counts = CountsFaults-then before.counts c.in_ok-send.ensures.counts;
    }

pub returns-clause-ok : goal.returns-clause-ok
returns-clause-ok g c = λ all keeps.
    let test = c.loop-packet-test.false in
    let whole : take c.loop-packet.packet-index c.args.packets.now ≡ c.args.packets.now =
    take_all c.loop-packet.packet-index c.args.packets.now (omega arith) in
    c.loop-packet.invariant.told all keeps
    ∙ ap (λ (l : List Timed). option_map (sending_all c.args.side (map (bytes_in all) l))
    (g.W.Wire.view c.args.wire.now).told) whole
