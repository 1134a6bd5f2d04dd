use Rattle.std.proofs.Common.{◌∙◌, ap, arith, refl, take}
use Rattle.std.proofs.lemmas.List.{take_all}
use Rattle.packet_record.specs.Packets.{number}
use Rattle.live_relay.specs.inside.Pieces.{has_number}
use Rattle.live_relay.proofs.Forgetting.{gone_more, rest_more}
use Rattle.live_relay.proofs.PieceLemmas.{keeps_rest}
use Rattle.live_relay.proofs.way.forget.Goals as goal

pub loop-packet-init : goal.loop-packet-init
loop-packet-init c = record {
  kept = λ all keeps. keeps;
  gone = λ n some. absurd (omega arith);
  rest = λ n none. refl;
}

pub loop-packet-preserved : goal.loop-packet-preserved
loop-packet-preserved c =
    let before = c.loop-packet.invariant in
    let t = c.packet-item.result in
    record {
      kept = λ all keeps. keeps_rest all t.packet.id c.loop-packet.kept c.take.new.self c.take.ensures.rest
          (before.kept all keeps);
      gone = gone_more c.args.packets.now c.loop-packet.packet-index t c.loop-packet.kept c.take.new.self
          c.loop-packet-test.true c.packet-item.is c.take.ensures.rest before.gone;
      rest = rest_more c.args.packets.now c.loop-packet.packet-index t c.args.kept.now c.loop-packet.kept
          c.take.new.self c.loop-packet-test.true c.packet-item.is c.take.ensures.rest before.rest;
    }

pub returns-clause-kept : goal.returns-clause-kept
returns-clause-kept c = c.loop-packet.invariant.kept

pub returns-clause-gone : goal.returns-clause-gone
returns-clause-gone c = λ n some.
    let test = c.loop-packet-test.false in
    let whole = ap (number (has_number n)) (take_all c.loop-packet.packet-index c.args.packets.now (omega arith)) in
    c.loop-packet.invariant.gone n (omega arith)

pub returns-clause-rest : goal.returns-clause-rest
returns-clause-rest c = λ n none.
    let test = c.loop-packet-test.false in
    let whole = ap (number (has_number n)) (take_all c.loop-packet.packet-index c.args.packets.now (omega arith)) in
    c.loop-packet.invariant.rest n (whole ∙ none)
