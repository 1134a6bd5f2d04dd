use Rattle.std.proofs.Common.{◌∙◌, List, ap, sym, subst, map, drop, rules}
use Rattle.std.specs.Option.{option_map}
use Rattle.packet_record.specs.declared.packet.Timed.{Timed}
use Rattle.packet_record.specs.Moments.{Rise}
use Rattle.live_relay.specs.Lines.{up_to}
use Rattle.live_relay.specs.Due.{bytes_in}
use Rattle.live_relay.specs.inside.Ways.{StopsSending}
use Rattle.live_relay.specs.Wires.{sending_all}
use Rattle.live_relay.proofs.Results.{on_err_any}
use Rattle.live_relay.proofs.UpTo.{up_to_rest}
use Rattle.live_relay.proofs.way.Way.send_due.Goals as goal

pub returns-in_err-send_packets-clause-err : goal.returns-in_err-send_packets-clause-err
returns-in_err-send_packets-clause-err g c =
    let w = c.args.self.now in
    let d = c.departed-departed.result.now in
    let rest = up_to_rest c.args.moment w.sent c.due_count-end.result d
    (subst (λ (l : List Timed). Rise l) (sym c.departed-departed.ensures.departed)
    c.departed-departed.ensures.settled.rises) c.due_count-end.ensures.known c.due_count-end.ensures.count in
    on_err_any _ c.from_residual.result
    (λ all keeps. subst (λ (l : List Timed). StopsSending c.args.side (map (bytes_in all) l)
    (g.W.Wire.view c.args.wire.now).told (g.W.Wire.view c.send_packets.new.wire).told)
    (rest ∙ ap (λ (l : List Timed). drop w.sent (up_to c.args.moment l)) c.departed-departed.ensures.departed)
    (c.in_err-send_packets.ensures.err all keeps))

pub returns-clause-ok : goal.returns-clause-ok
returns-clause-ok g c =
    let w = c.args.self.now in
    let d = c.departed-departed.result.now in
    let rest = up_to_rest c.args.moment w.sent c.due_count-end.result d
    (subst (λ (l : List Timed). Rise l) (sym c.departed-departed.ensures.departed)
    c.departed-departed.ensures.settled.rises) c.due_count-end.ensures.known c.due_count-end.ensures.count in
    λ all keeps. c.in_ok-send_packets.ensures.ok all keeps
    ∙ ap (λ (l : List Timed). option_map (sending_all c.args.side (map (bytes_in all) l))
    (g.W.Wire.view c.args.wire.now).told)
    (rest ∙ ap (λ (l : List Timed). drop w.sent (up_to c.args.moment l)) c.departed-departed.ensures.departed)

pub returns-clause-sent : goal.returns-clause-sent
returns-clause-sent g c = search rules

pub returns-clause-kept : goal.returns-clause-kept
returns-clause-kept g c = λ all keeps.
    c.forget_lost.ensures.kept all (c.in_ok-send_packets.ensures.kept all keeps)
