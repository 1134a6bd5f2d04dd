-- What a turn leaves, and where it may stop.
use Rattle.std.proofs.Common.{◌≡◌, inl, inr, ℕ, ◌≤◌, ◌+◌, List, [], ◌∷◌, ◌++◌, Option, option_map, length, ap, ◌∙◌}
use Rattle.std.proofs.Common.{refl, arith}
use Rattle.std.proofs.lemmas.List.{length-append}
use Rattle.packet_record.specs.declared.packet.Direction.TheVariants.{Up, Down}
use Rattle.nest_spec.specs.Nests.{NestParts}
use Rattle.live_relay.specs.Lines.{IsSettled, up_to}
use Rattle.live_relay.specs.declared.relay_state.Relay.{Relay}
use Rattle.live_relay.specs.declared.side.Side.TheVariants.{Client, Server}
use Rattle.live_relay.specs.Due.{last_moment}
use Rattle.live_relay.specs.Relays.{HasAsked, HasSent, HasSentSome}
use Rattle.live_relay.specs.Stamped.{Turn}
use Rattle.live_relay.specs.inside.Stamped.{turn}
use Rattle.live_relay.specs.inside.Turns.{HasFed, IsCurrent, IsSameButSent, IsTurned, StopsAt, StopsBoth, AtServer}
use Rattle.live_relay.specs.inside.Turns.{AtClient, waits_down, waits_up, sending_both}
use Rattle.live_relay.specs.Wires.{Datagram, WireTold, WireView, receiving, sending_all}
use Rattle.live_relay.proofs.Asking.{but_last_turn, last_turn}
use Rattle.live_relay.proofs.Dues.{due_later, due_next}
use Rattle.live_relay.proofs.Feeding.{all_of, Grown, current_way, grown_fed}
use Rattle.live_relay.proofs.Telling.{asked_sent, asked_turn, map_twice, moves_to, sent_asked, sent_both, some_down}
use Rattle.live_relay.proofs.Telling.{some_none, some_up, told_back}

pub turned : (nest : NestParts) (turns : List Turn) (m : ℕ) (answer : Option Datagram) (old mid new : WireView)
    (before passed after : Relay) → IsCurrent nest turns before
    → HasFed nest (turns ++ turn m answer ∷ []) m before passed → last_moment turns ≤ m → m ≤ nest.horizon
    → IsSettled passed.up.line → IsSettled passed.down.line → IsSameButSent passed after
    → after.up.sent ≡ length (up_to m passed.up.line.departed)
    → after.down.sent ≡ length (up_to m passed.down.line.departed)
    → mid.told ≡ option_map (receiving 1505 answer) old.told → mid.asked ≡ old.asked + 1
    → new.told ≡ option_map (sending_both (waits_up (all_of (turns ++ turn m answer ∷ [])) m passed)
    (waits_down (all_of (turns ++ turn m answer ∷ [])) m passed)) mid.told → new.asked ≡ mid.asked
    → IsTurned nest turns m old new after
turned nest turns m answer old mid new before passed after c f le within up down same up_sent down_sent got asked gave
    kept =
    let turns' = turns ++ turn m answer ∷ [] in
    let last : last_moment turns' ≡ m = last_turn turns (turn m answer) in
    let g = grown_fed nest turns m answer before passed c f le within up down in
    let ups = waits_up (all_of turns') m passed in
    let downs = waits_down (all_of turns') m passed in
    let moves = gave ∙ ap (option_map (sending_both ups downs)) got
    ∙ map_twice (sending_both ups downs) (receiving 1505 answer) old.told in
    record {
      answer = answer;
      current = record {
        stamps = record {
          rows = same.rows ∙ f.stamps.rows;
          kept = same.kept (all_of turns') f.stamps.kept;
          refused = same.refused ∙ f.stamps.refused;
        };
        up = current_way nest turns' Up m before.up passed.up after.up f.up last within up same.up up_sent;
        down = current_way nest turns' Down m before.down passed.down after.down f.down last within down same.down
            down_sent;
      };
      asked = kept ∙ asked;
      told = told_back (λ w. sending_both ups downs (receiving 1505 answer w)) old new moves;
      goes = moves_to nest turns (λ w. sending_both ups downs (receiving 1505 answer w)) old new _ moves
          (λ start w a s. (
            sent_asked nest turns' ups downs start (receiving 1505 answer w)
                (asked_turn nest turns m answer start w a s),
            sent_both nest turns turns' m passed start (receiving 1505 answer w) g s,
          ));
    }

-- a receive was refused
pub stops_receiving : (nest : NestParts) (turns : List Turn) (m : ℕ) (old new : WireView) (before : Relay)
    → IsCurrent nest turns before → last_moment turns ≤ m → new.told ≡ option_map (λ (w : WireTold). w) old.told
    → new.asked ≡ old.asked → StopsAt nest turns m old new
stops_receiving nest turns m old new before c le told asked = record {
  all = turns;
  are = inl refl;
  asked = omega arith;
  told = told_back (λ (w : WireTold). w) old new told;
  goes = moves_to nest turns (λ (w : WireTold). w) old new _ told (λ start w a s. (
    a,
    some_none nest turns turns m start w s
        (due_later nest turns Client (last_moment turns) m before.down c.down le)
        (due_later nest turns Server (last_moment turns) m before.up c.up le) (inl refl),
  ));
}

turn_asks : (turns : List Turn) (t : Turn) (old new : ℕ) → new ≡ old + 1
    → new + length turns ≡ old + length (turns ++ t ∷ [])
turn_asks turns t old new e = let long = length-append turns (t ∷ []) in omega arith

-- memory was wanting for what came
pub stops_passing : (nest : NestParts) (turns : List Turn) (m : ℕ) (answer : Option Datagram) (old new : WireView)
    (before : Relay) → IsCurrent nest turns before → last_moment turns ≤ m
    → new.told ≡ option_map (receiving 1505 answer) old.told → new.asked ≡ old.asked + 1 → StopsAt nest turns m old new
stops_passing nest turns m answer old new before c le told asked =
    let t = turn m answer in
    record {
      all = turns ++ t ∷ [];
      are = inr (answer, refl);
      asked = turn_asks turns t old.asked new.asked asked;
      told = told_back (receiving 1505 answer) old new told;
      goes = moves_to nest turns (receiving 1505 answer) old new _ told (λ start w a s. (
        asked_turn nest turns m answer start w a s,
        some_none nest turns (turns ++ t ∷ []) m start (receiving 1505 answer w) s
            (due_next nest turns t Client (last_moment turns) before.down c.down le)
            (due_next nest turns t Server (last_moment turns) before.up c.up le) (inr (but_last_turn turns t)),
      ));
    }

-- sending stopped in a turn
pub stops_sending : (nest : NestParts) (turns : List Turn) (m : ℕ) (answer : Option Datagram) (old mid new : WireView)
    (before passed : Relay) → IsCurrent nest turns before
    → HasFed nest (turns ++ turn m answer ∷ []) m before passed → last_moment turns ≤ m → m ≤ nest.horizon
    → IsSettled passed.up.line → IsSettled passed.down.line
    → mid.told ≡ option_map (receiving 1505 answer) old.told → mid.asked ≡ old.asked + 1
    → StopsBoth (waits_up (all_of (turns ++ turn m answer ∷ [])) m passed)
    (waits_down (all_of (turns ++ turn m answer ∷ [])) m passed) mid.told new.told → new.asked ≡ mid.asked
    → StopsAt nest turns m old new
stops_sending nest turns m answer old mid new before passed c f le within up down got asked stops kept = by stops
  where
    t : Turn
    t = turn m answer

    turns' : List Turn
    turns' = turns ++ t ∷ []

    g : Grown nest turns turns' m passed
    g = grown_fed nest turns m answer before passed c f le within up down

    stop : (f : WireTold → WireTold) → new.told ≡ option_map f old.told
        → ((start w : WireTold) → HasAsked nest turns start w
        → HasSent nest turns (last_moment turns) start.sent w.sent
        → HasAsked nest turns' start (f w) × HasSentSome nest turns' m start.sent (f w).sent)
        → StopsAt nest turns m old new
    stop f moves then = record {
      all = turns';
      are = inr (answer, refl);
      asked = turn_asks turns t old.asked new.asked (kept ∙ asked);
      told = told_back f old new moves;
      goes = moves_to nest turns f old new _ moves then;
    }

    by : StopsBoth (waits_up (all_of turns') m passed) (waits_down (all_of turns') m passed) mid.told new.told
        → StopsAt nest turns m old new
    by (AtServer s) = stop (λ w. sending_all Server s.front (receiving 1505 answer w))
        (s.told ∙ ap (option_map (sending_all Server s.front)) got
        ∙ map_twice (sending_all Server s.front) (receiving 1505 answer) old.told)
        (λ start w a sent. (
          asked_sent nest turns' Server s.front start (receiving 1505 answer w)
              (asked_turn nest turns m answer start w a sent),
          some_up nest turns turns' m passed s.front start (receiving 1505 answer w) g s.some sent
              (inr (but_last_turn turns t)),
        ))
    by (AtClient s) =
        let ups = waits_up (all_of turns') m passed in
        stop (λ w. sending_all Client s.front (sending_all Server ups (receiving 1505 answer w)))
        (s.told ∙ ap (λ (o : Option WireTold). option_map (sending_all Client s.front)
        (option_map (sending_all Server ups) o)) got
        ∙ ap (option_map (sending_all Client s.front))
        (map_twice (sending_all Server ups) (receiving 1505 answer) old.told)
        ∙ map_twice (sending_all Client s.front) (λ w. sending_all Server ups (receiving 1505 answer w)) old.told)
        (λ start w a sent. (
          asked_sent nest turns' Client s.front start (sending_all Server ups (receiving 1505 answer w))
              (asked_sent nest turns' Server ups start (receiving 1505 answer w)
              (asked_turn nest turns m answer start w a sent)),
          some_down nest turns turns' m passed s.front start (receiving 1505 answer w) g s.some sent,
        ))
