-- What the end of a relay leaves, past the horizon, and where it may stop.
use Rattle.std.proofs.Common.{◌≡◌, inl, inr, ℕ, ◌≤◌, List, Some, option_map, sym, subst, ◌∙◌, refl, arith}
use Rattle.nest_spec.specs.Nests.{NestParts}
use Rattle.live_relay.specs.Lines.{IsSettled}
use Rattle.live_relay.specs.declared.relay_state.Relay.{Relay}
use Rattle.live_relay.specs.declared.side.Side.TheVariants.{Client, Server}
use Rattle.live_relay.specs.Due.{due, last_moment}
use Rattle.live_relay.specs.Relays.{HasAsked, HasSent, HasSentSome}
use Rattle.live_relay.specs.Stamped.{Turn}
use Rattle.live_relay.specs.inside.Turns.{HasEnded, IsCurrent, StopsBoth, AtServer, AtClient, waits_down, waits_up}
use Rattle.live_relay.specs.inside.Turns.{EndsAt, StopsPast, sending_both}
use Rattle.live_relay.specs.Wires.{WireTold, WireView, sending_all}
use Rattle.live_relay.proofs.Asking.{front_whole}
use Rattle.live_relay.proofs.Dues.{due_later}
use Rattle.live_relay.proofs.Feeding.{all_of, Grown, grown_ended}
use Rattle.live_relay.proofs.Telling.{asked_sent, map_twice, moves_to, sent_asked, sent_both, some_down, some_none}
use Rattle.live_relay.proofs.Telling.{some_up, told_back}

pub ends_past : (nest : NestParts) (turns : List Turn) (m : ℕ) (old new : WireView) (before passed : Relay)
    → IsCurrent nest turns before → HasEnded nest turns before passed → last_moment turns ≤ m
    → IsSettled passed.up.line → IsSettled passed.down.line
    → new.told
    ≡ option_map (sending_both (waits_up (all_of turns) m passed) (waits_down (all_of turns) m passed)) old.told
    → new.asked ≡ old.asked
    → EndsAt nest turns m old new
ends_past nest turns m old new before passed c f le up down moves kept =
    let g = grown_ended nest turns m before passed c f le up down in
    let ups = waits_up (all_of turns) m passed in
    let downs = waits_down (all_of turns) m passed in
    record {
      asked = kept;
      told = told_back (sending_both ups downs) old new moves;
      goes = moves_to nest turns (sending_both ups downs) old new _ moves (λ start w a s. (
        sent_asked nest turns ups downs start w a,
        sent_both nest turns turns m passed start w g s,
      ));
    }

some_all : (nest : NestParts) (turns : List Turn) (m : ℕ) (start w : WireTold)
    → HasSent nest turns m start.sent w.sent → HasSentSome nest turns m start.sent w.sent
some_all nest turns m start w sent = record {
  to_client = due nest turns Client m;
  client = sent.client;
  client_front = front_whole (due nest turns Client m);
  to_server = due nest turns Server m;
  server = sent.server;
  server_front = front_whole (due nest turns Server m);
  order = inr (inr (front_whole (due nest turns Server m)));
}

-- memory was wanting for the result
pub stops_gathering : (nest : NestParts) (turns : List Turn) (m : ℕ) (old new : WireView) (before passed : Relay)
    → IsCurrent nest turns before → HasEnded nest turns before passed → last_moment turns ≤ m
    → IsSettled passed.up.line → IsSettled passed.down.line
    → new.told
    ≡ option_map (sending_both (waits_up (all_of turns) m passed) (waits_down (all_of turns) m passed)) old.told
    → new.asked ≡ old.asked
    → StopsPast nest turns m old new
stops_gathering nest turns m old new before passed c f le up down moves kept =
    let g = grown_ended nest turns m before passed c f le up down in
    let ups = waits_up (all_of turns) m passed in
    let downs = waits_down (all_of turns) m passed in
    record {
      stops = record {
        all = turns;
        are = inl refl;
        asked = omega arith;
        told = told_back (sending_both ups downs) old new moves;
        goes = moves_to nest turns (sending_both ups downs) old new _ moves (λ start w a s. (
          sent_asked nest turns ups downs start w a,
          some_all nest turns m start (sending_both ups downs w)
              (sent_both nest turns turns m passed start w g s),
        ));
      };
      same = refl;
    }

-- sending stopped past the horizon
pub stops_past : (nest : NestParts) (turns : List Turn) (m : ℕ) (old new : WireView) (before passed : Relay)
    → IsCurrent nest turns before → HasEnded nest turns before passed → last_moment turns ≤ m
    → IsSettled passed.up.line → IsSettled passed.down.line
    → StopsBoth (waits_up (all_of turns) m passed) (waits_down (all_of turns) m passed) old.told new.told
    → new.asked ≡ old.asked
    → StopsPast nest turns m old new
stops_past nest turns m old new before passed c f le up down stops kept = by stops
  where
    g : Grown nest turns turns m passed
    g = grown_ended nest turns m before passed c f le up down

    stop : (f : WireTold → WireTold) → new.told ≡ option_map f old.told
        → ((start w : WireTold) → HasAsked nest turns start w
        → HasSent nest turns (last_moment turns) start.sent w.sent
        → HasAsked nest turns start (f w) × HasSentSome nest turns m start.sent (f w).sent)
        → StopsPast nest turns m old new
    stop f moves then = record {
      stops = record {
        all = turns;
        are = inl refl;
        asked = omega arith;
        told = told_back f old new moves;
        goes = moves_to nest turns f old new _ moves then;
      };
      same = refl;
    }

    by : StopsBoth (waits_up (all_of turns) m passed) (waits_down (all_of turns) m passed) old.told new.told
        → StopsPast nest turns m old new
    by (AtServer s) = stop (sending_all Server s.front) s.told (λ start w a sent. (
      asked_sent nest turns Server s.front start w a,
      some_up nest turns turns m passed s.front start w g s.some sent (inl refl),
    ))
    by (AtClient s) =
        let ups = waits_up (all_of turns) m passed in
        stop (λ w. sending_all Client s.front (sending_all Server ups w))
        (s.told ∙ map_twice (sending_all Client s.front) (sending_all Server ups) old.told)
        (λ start w a sent. (
          asked_sent nest turns Client s.front start (sending_all Server ups w)
              (asked_sent nest turns Server ups start w a),
          some_down nest turns turns m passed s.front start w g s.some sent,
        ))

-- memory was wanting before anything was sent
pub stops_ending : (nest : NestParts) (turns : List Turn) (m : ℕ) (wire : WireView) (before : Relay)
    → IsCurrent nest turns before → last_moment turns ≤ m → StopsPast nest turns m wire wire
stops_ending nest turns m wire before c le = record {
  stops = record {
    all = turns;
    are = inl refl;
    asked = omega arith;
    told = λ now e. (now, e);
    goes = λ start was now e e' a s. subst (λ (w : WireTold). HasAsked nest turns start w
        × HasSentSome nest turns m start.sent w.sent) (let both : Some was ≡ Some now = sym e ∙ e' in cc both) (
          a,
          some_none nest turns turns m start was s
              (due_later nest turns Client (last_moment turns) m before.down c.down le)
              (due_later nest turns Server (last_moment turns) m before.up c.up le) (inl refl),
        );
  };
  same = refl;
}
