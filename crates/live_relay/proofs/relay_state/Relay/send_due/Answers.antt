use Rattle.std.proofs.Common.{◌∙◌, Option, ap, option_map, refl, subst}
use Rattle.std.proofs.lemmas.Result.{on_err_weaker, on_ok_weaker}
use Rattle.live_relay.specs.inside.Turns.{AtClient, AtServer, waits_down, waits_up}
use Rattle.live_relay.specs.inside.Ways.{StopsSending}
use Rattle.live_relay.specs.declared.side.Side.TheVariants.{Client, Server}
use Rattle.live_relay.specs.Wires.{WireTold, sending_all}
use Rattle.live_relay.proofs.Results.{on_err_any}
use Rattle.live_relay.proofs.Telling.{map_twice}
use Rattle.live_relay.proofs.relay_state.Relay.send_due.Goals as goal

pub returns-in_err-send_due-clause-err : goal.returns-in_err-send_due-clause-err
returns-in_err-send_due-clause-err g c = on_err_any _ c.from_residual.result
    (λ all keeps. AtServer (c.in_err-send_due.ensures.err all keeps.up))

pub returns-clause-err : goal.returns-clause-err
returns-clause-err g c = on_err_weaker c.send_due-2.result (λ stops all keeps.
    AtClient (subst (λ (told : Option WireTold). StopsSending Client (waits_down all c.args.moment c.args.self.now) told
    (g.W.Wire.view c.send_due-2.new.wire).told) (c.in_ok-send_due.ensures.ok all keeps.up) (stops all keeps.down)))
    c.send_due-2.ensures.err

pub returns-clause-ok : goal.returns-clause-ok
returns-clause-ok g c = on_ok_weaker c.send_due-2.result (λ sent all keeps.
    sent all keeps.down
    ∙ ap (option_map (sending_all Client (waits_down all c.args.moment c.args.self.now)))
    (c.in_ok-send_due.ensures.ok all keeps.up)
    ∙ map_twice (sending_all Client (waits_down all c.args.moment c.args.self.now))
    (sending_all Server (waits_up all c.args.moment c.args.self.now)) (g.W.Wire.view c.args.wire.now).told)
    c.send_due-2.ensures.ok

pub returns-in_err-send_due-clause-same : goal.returns-in_err-send_due-clause-same
returns-in_err-send_due-clause-same g c = record {
  rows = refl;
  refused = refl;
  kept = λ all keeps. record { up = c.send_due.ensures.kept all keeps.up; down = keeps.down };
  up = c.send_due.ensures.line;
  down = refl;
}

pub returns-clause-same : goal.returns-clause-same
returns-clause-same g c = record {
  rows = refl;
  refused = refl;
  kept = λ all keeps. record {
    up = c.send_due.ensures.kept all keeps.up;
    down = c.send_due-2.ensures.kept all keeps.down;
  };
  up = c.send_due.ensures.line;
  down = c.send_due-2.ensures.line;
}
