-- What a wire that tells was asked, and what was sent by it.
use Rattle.std.proofs.Common.{◌≡◌, ◌⊎◌, inl, inr, ℕ, ◌+◌, List, [], ◌∷◌, ◌++◌, Option, Some, None, option_map, length}
use Rattle.std.proofs.Common.{ap, sym, subst, ◌∙◌, refl, append_assoc}
use Rattle.nest_spec.specs.Nests.{NestParts}
use Rattle.live_relay.specs.declared.relay_state.Relay.{Relay}
use Rattle.live_relay.specs.declared.received.Received.{Received}
use Rattle.live_relay.specs.declared.side.Side.{Side}
use Rattle.live_relay.specs.declared.side.Side.TheVariants.{Client, Server}
use Rattle.live_relay.specs.Due.{due, last_moment}
use Rattle.live_relay.specs.Relays.{HasAsked, HasSent, HasSentSome, IsFrontOf, but_last}
use Rattle.live_relay.specs.Stamped.{Turn}
use Rattle.live_relay.specs.inside.Stamped.{turn}
use Rattle.live_relay.specs.inside.Turns.{GoesTo, ToldBefore, waits_down, waits_up, sending_both}
use Rattle.live_relay.specs.Wires.{Datagram, WireTold, WireView, receiving, sending_all}
use Rattle.live_relay.proofs.Asking.{asked_more, asked_on, front_behind, front_then, front_whole}
use Rattle.live_relay.proofs.Feeding.{all_of, Grown}

pub map_twice : (f g : WireTold → WireTold) (told : Option WireTold)
    → option_map f (option_map g told) ≡ option_map (λ w. f (g w)) told
map_twice f g None = refl
map_twice f g (Some w) = refl

some_before : (f : WireTold → WireTold) (told : Option WireTold) (now : WireTold) → option_map f told ≡ Some now
    → (start : WireTold) × (told ≡ Some start)
some_before f None now e = absurd (cc e)
some_before f (Some w) now e = (w, refl)

pub told_back : (f : WireTold → WireTold) (old new : WireView) → new.told ≡ option_map f old.told → ToldBefore old new
told_back f old new e now now_is = some_before f old.told now (sym e ∙ now_is)

is_now : (f : WireTold → WireTold) (told : Option WireTold) (before now : WireTold) → told ≡ Some before
    → option_map f told ≡ Some now → f before ≡ now
is_now f told before now e e' = let both : Some (f before) ≡ Some now = sym (ap (option_map f) e) ∙ e' in cc both

-- what holds after the move of a wire that tells
pub moves_to : (nest : NestParts) (turns : List Turn) (f : WireTold → WireTold) (old new : WireView)
    (P : WireTold → WireTold → Type 0) → new.told ≡ option_map f old.told
    → ((start before : WireTold) → HasAsked nest turns start before
    → HasSent nest turns (last_moment turns) start.sent before.sent → P start (f before))
    → GoesTo nest turns old new P
moves_to nest turns f old new P e then start before now was is asked sent =
    subst (P start) (is_now f old.told before now was (sym e ∙ is)) (then start before asked sent)

pub asked_turn : (nest : NestParts) (turns : List Turn) (m : ℕ) (answer : Option Datagram) (start before : WireTold)
    → HasAsked nest turns start before → HasSent nest turns (last_moment turns) start.sent before.sent
    → HasAsked nest (turns ++ turn m answer ∷ []) start (receiving 1505 answer before)
asked_turn nest turns m answer start before asked sent =
    let e : Received = record {
      room = 1505;
      answer = answer;
      client = length before.sent.client;
      server = length before.sent.server;
    } in
    asked_more nest turns (turn m answer) start before (receiving 1505 answer before) e asked sent refl refl refl refl
    refl
    refl

pub asked_sent : (nest : NestParts) (turns : List Turn) (side : Side) (pieces : List (List ℕ)) (start w : WireTold)
    → HasAsked nest turns start w → HasAsked nest turns start (sending_all side pieces w)
asked_sent nest turns Client pieces start w asked = asked_on nest turns start w (sending_all Client pieces w) asked refl
    (front_then w.sent.client pieces) (front_whole w.sent.server)
asked_sent nest turns Server pieces start w asked = asked_on nest turns start w (sending_all Server pieces w) asked refl
    (front_whole w.sent.client) (front_then w.sent.server pieces)

-- more was sent behind what was due
behind : (old now due more : List (List ℕ)) → now ≡ old ++ due → now ++ more ≡ old ++ (due ++ more)
behind old now due more e = ap (λ (l : List (List ℕ)). l ++ more) e ∙ append_assoc old due more

-- all that waited was sent
pub sent_both : (nest : NestParts) (turns turns' : List Turn) (m : ℕ) (r : Relay) (start w : WireTold)
    → Grown nest turns turns' m r → HasSent nest turns (last_moment turns) start.sent w.sent
    → HasSent nest turns' m start.sent
    (sending_both (waits_up (all_of turns') m r) (waits_down (all_of turns') m r) w).sent
sent_both nest turns turns' m r start w g sent = record {
  client = behind start.sent.client w.sent.client _ (waits_down (all_of turns') m r) sent.client
      ∙ ap (λ (l : List (List ℕ)). start.sent.client ++ l) (sym g.client);
  server = behind start.sent.server w.sent.server _ (waits_up (all_of turns') m r) sent.server
      ∙ ap (λ (l : List (List ℕ)). start.sent.server ++ l) (sym g.server);
}

-- up comes before down
order_of : (nest : NestParts) (turns turns' : List Turn) (m : ℕ) (to_client to_server : List (List ℕ))
    → (turns' ≡ turns) ⊎ (but_last turns' ≡ turns)
    → IsFrontOf to_client (due nest turns Client (last_moment turns))
    → IsFrontOf (due nest turns Server (last_moment turns)) to_server
    → IsFrontOf to_client (due nest (but_last turns') Client (last_moment (but_last turns')))
    ⊎ ((IsFrontOf to_client (due nest turns' Client (last_moment turns'))
    × IsFrontOf (due nest turns' Server (last_moment turns')) to_server)
    ⊎ IsFrontOf (due nest turns' Server m) to_server)
order_of nest turns turns' m to_client to_server (inl same) client server =
    inr (inl (subst (λ (l : List Turn). IsFrontOf to_client (due nest l Client (last_moment l))
    × IsFrontOf (due nest l Server (last_moment l)) to_server) (sym same) (client, server)))
order_of nest turns turns' m to_client to_server (inr before) client server =
    inl (subst (λ (l : List Turn). IsFrontOf to_client (due nest l Client (last_moment l))) (sym before) client)

-- none of what waits was sent
pub some_none : (nest : NestParts) (turns turns' : List Turn) (m : ℕ) (start w : WireTold)
    → HasSent nest turns (last_moment turns) start.sent w.sent
    → IsFrontOf (due nest turns Client (last_moment turns)) (due nest turns' Client m)
    → IsFrontOf (due nest turns Server (last_moment turns)) (due nest turns' Server m)
    → (turns' ≡ turns) ⊎ (but_last turns' ≡ turns)
    → HasSentSome nest turns' m start.sent w.sent
some_none nest turns turns' m start w sent client server are = record {
  to_client = due nest turns Client (last_moment turns);
  client = sent.client;
  client_front = client;
  to_server = due nest turns Server (last_moment turns);
  server = sent.server;
  server_front = server;
  order = order_of nest turns turns' m (due nest turns Client (last_moment turns))
      (due nest turns Server (last_moment turns)) are (front_whole (due nest turns Client (last_moment turns)))
      (front_whole (due nest turns Server (last_moment turns)));
}

-- a prefix of what waits was sent up
pub some_up : (nest : NestParts) (turns turns' : List Turn) (m : ℕ) (r : Relay) (front : List (List ℕ))
    (start w : WireTold) → Grown nest turns turns' m r → IsFrontOf front (waits_up (all_of turns') m r)
    → HasSent nest turns (last_moment turns) start.sent w.sent
    → (turns' ≡ turns) ⊎ (but_last turns' ≡ turns)
    → HasSentSome nest turns' m start.sent (sending_all Server front w).sent
some_up nest turns turns' m r front start w g some sent are =
    let client = due nest turns Client (last_moment turns) in
    let server = due nest turns Server (last_moment turns) in
    record {
      to_client = client;
      client = sent.client;
      client_front = subst (IsFrontOf client) (sym g.client) (front_then client (waits_down (all_of turns') m r));
      to_server = server ++ front;
      server = behind start.sent.server w.sent.server server front sent.server;
      server_front = subst (IsFrontOf (server ++ front)) (sym g.server)
          (front_behind server front (waits_up (all_of turns') m r) some);
      order = order_of nest turns turns' m client (server ++ front) are (front_whole client) (front_then server front);
    }

-- all that waits was sent up, and a prefix of what waits down
pub some_down : (nest : NestParts) (turns turns' : List Turn) (m : ℕ) (r : Relay) (front : List (List ℕ))
    (start w : WireTold) → Grown nest turns turns' m r → IsFrontOf front (waits_down (all_of turns') m r)
    → HasSent nest turns (last_moment turns) start.sent w.sent
    → HasSentSome nest turns' m start.sent
    (sending_all Client front (sending_all Server (waits_up (all_of turns') m r) w)).sent
some_down nest turns turns' m r front start w g some sent =
    let client = due nest turns Client (last_moment turns) in
    let server = due nest turns Server (last_moment turns) in
    record {
      to_client = client ++ front;
      client = behind start.sent.client w.sent.client client front sent.client;
      client_front = subst (IsFrontOf (client ++ front)) (sym g.client)
          (front_behind client front (waits_down (all_of turns') m r) some);
      to_server = due nest turns' Server m;
      server = behind start.sent.server w.sent.server server (waits_up (all_of turns') m r) sent.server
          ∙ ap (λ (l : List (List ℕ)). start.sent.server ++ l) (sym g.server);
      server_front = front_whole (due nest turns' Server m);
      order = inr (inr (front_whole (due nest turns' Server m)));
    }

pub sent_asked : (nest : NestParts) (turns : List Turn) (ups downs : List (List ℕ)) (start w : WireTold)
    → HasAsked nest turns start w → HasAsked nest turns start (sending_both ups downs w)
sent_asked nest turns ups downs start w asked = asked_sent nest turns Client downs start (sending_all Server ups w)
    (asked_sent nest turns Server ups start w asked)
