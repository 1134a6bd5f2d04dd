-- What was asked and sent, turn by turn.
use Rattle.std.proofs.Common.{◌≡◌, ℕ, ◌≤◌, ◌<◌, ◌-◌, Bool, true, false, List, [], ◌∷◌}
use Rattle.std.proofs.Common.{◌++◌}
use Rattle.std.proofs.Common.{Option, length, map, take, get_or, nat_lt, ap, sym, subst, ◌∙◌}
use Rattle.std.proofs.Common.{refl}
use Rattle.std.proofs.Common.{append_assoc, arith, rules, tests}
use Rattle.std.proofs.lemmas.List.{append-nil, length-append, length-map, map-append, take-append-le}
use Rattle.std.proofs.Math.ListN.{get_or-append}
use Rattle.std.proofs.Math.Seq.{get_or-append_seam, take-append_seam}
use Rattle.nest_spec.specs.Nests.{NestParts}
use Rattle.nest_spec.specs.Walk.{last_of}
use Rattle.live_relay.specs.declared.received.Received.{Received}
use Rattle.live_relay.specs.declared.side.Side.TheVariants.{Client, Server}
use Rattle.live_relay.specs.Due.{due, last_moment}
use Rattle.live_relay.specs.Relays.{AreWithin, HasAsked, HasSent, IsFrontOf, IsPrompt, WasSent, but_last}
use Rattle.live_relay.specs.Stamped.{Turn}
use Rattle.live_relay.specs.Wires.{Datagram, Sent, WireTold}

pub front_whole : {A : Type 0} (xs : List A) → IsFrontOf xs xs
front_whole xs = record { more = []; is = sym (append-nil xs) }

pub front_then : {A : Type 0} (xs ys : List A) → IsFrontOf xs (xs ++ ys)
front_then xs ys = record { more = ys; is = refl }

pub front_on : {A : Type 0} (xs ys zs : List A) → IsFrontOf xs ys → IsFrontOf ys zs → IsFrontOf xs zs
front_on {A} xs ys zs a b = record {
  more = a.more ++ b.more;
  is = b.is ∙ ap (λ (l : List A). l ++ b.more) a.is ∙ append_assoc xs a.more b.more;
}

-- behind the same prefix
pub front_behind : {A : Type 0} (xs ys zs : List A) → IsFrontOf ys zs → IsFrontOf (xs ++ ys) (xs ++ zs)
front_behind {A} xs ys zs a = record {
  more = a.more;
  is = ap (λ (l : List A). xs ++ l) a.is ∙ sym (append_assoc xs ys a.more);
}

pub last_snoc : (low : ℕ) (ms : List ℕ) (m : ℕ) → last_of low (ms ++ m ∷ []) ≡ m
last_snoc low [] m = refl
last_snoc low (n ∷ ms) m = last_snoc n ms m

pub last_turn : (turns : List Turn) (t : Turn) → last_moment (turns ++ t ∷ []) ≡ t.moment
last_turn turns t = ap (last_of 0) (map-append (λ (x : Turn). x.moment) turns (t ∷ []))
    ∙ last_snoc 0 (map (λ (x : Turn). x.moment) turns) t.moment

pub but_last_turn : (turns : List Turn) (t : Turn) → but_last (turns ++ t ∷ []) ≡ turns
but_last_turn turns t =
    let long = length-append turns (t ∷ []) in
    let e : length (turns ++ t ∷ []) - 1 ≡ length turns = omega arith in
    ap (λ n. take n (turns ++ t ∷ [])) e ∙ take-append_seam turns (t ∷ [])

pub within-snoc : (h : ℕ) (turns : List Turn) (t : Turn) → AreWithin h turns → t.moment ≤ h
    → AreWithin h (turns ++ t ∷ [])
within-snoc h [] t within le = (le, tt)
within-snoc h (x ∷ turns) t within le = (within.0, within-snoc h turns t within.1 le)

last_within : (h low : ℕ) (turns : List Turn) → low ≤ h → AreWithin h turns
    → last_of low (map (λ (x : Turn). x.moment) turns) ≤ h
last_within h low [] le within = le
last_within h low (t ∷ turns) le within = last_within h t.moment turns within.0 within.1

pub last_moment_within : (h : ℕ) (turns : List Turn) → AreWithin h turns → last_moment turns ≤ h
last_moment_within h turns within = last_within h 0 turns (omega arith) within

was_on : (old now now' due : List (List ℕ)) (count : ℕ) → WasSent old now due count → IsFrontOf now now'
    → WasSent old now' due count
was_on old now now' due count w f = record { count = w.count; front = front_on (old ++ due) now now' w.front f }

prompt_on : (nest : NestParts) (before : List Turn) (old now now' : Sent) (e : Received)
    → IsPrompt nest before old now e → IsFrontOf now.client now'.client → IsFrontOf now.server now'.server
    → IsPrompt nest before old now' e
prompt_on nest before old now now' e p client server = record {
  client = was_on old.client now.client now'.client _ e.client p.client client;
  server = was_on old.server now.server now'.server _ e.server p.server server;
}

-- where more was sent and nothing further asked
pub asked_on : (nest : NestParts) (turns : List Turn) (old now now' : WireTold) → HasAsked nest turns old now
    → now'.received ≡ now.received → IsFrontOf now.sent.client now'.sent.client
    → IsFrontOf now.sent.server now'.sent.server → HasAsked nest turns old now'
asked_on nest turns old now now' a same client server = record {
  entries = a.entries;
  received = same ∙ a.received;
  answers = a.answers;
  rooms = a.rooms;
  prompt = λ k e lt. prompt_on nest (take k turns) old.sent now.sent now'.sent (get_or a.entries k e) (a.prompt k e lt)
      client server;
}

prompt_now : (nest : NestParts) (turns : List Turn) (old now : Sent) (e : Received)
    → HasSent nest turns (last_moment turns) old now → e.client ≡ length now.client → e.server ≡ length now.server
    → IsPrompt nest turns old now e
prompt_now nest turns old now e sent client server =
    let c = due nest turns Client (last_moment turns) in
    let s = due nest turns Server (last_moment turns) in
    record {
      client = record {
        count = client ∙ ap length sent.client ∙ length-append old.client c;
        front = subst (IsFrontOf (old.client ++ c)) (sym sent.client) (front_whole (old.client ++ c));
      };
      server = record {
        count = server ∙ ap length sent.server ∙ length-append old.server s;
        front = subst (IsFrontOf (old.server ++ s)) (sym sent.server) (front_whole (old.server ++ s));
      };
    }

-- where one more receive was answered, when all that was due had been sent
pub asked_more : (nest : NestParts) (turns : List Turn) (t : Turn) (old now now' : WireTold) (e : Received)
    → HasAsked nest turns old now → HasSent nest turns (last_moment turns) old.sent now.sent
    → now'.received ≡ now.received ++ e ∷ [] → now'.sent ≡ now.sent → e.room ≡ 1505 → e.answer ≡ t.answer
    → e.client ≡ length now.sent.client → e.server ≡ length now.sent.server
    → HasAsked nest (turns ++ t ∷ []) old now'
asked_more nest turns t old now now' e a sent got same room answer client server = record {
  entries = a.entries ++ e ∷ [];
  received = got ∙ ap (λ (l : List Received). l ++ e ∷ []) a.received ∙ append_assoc old.received a.entries (e ∷ []);
  answers = map-append (λ (x : Received). x.answer) a.entries (e ∷ [])
      ∙ ap (λ (l : List (Option Datagram)). l ++ e.answer ∷ []) a.answers
      ∙ ap (λ (x : Option Datagram). map (λ (y : Turn). y.answer) turns ++ x ∷ []) answer
      ∙ sym (map-append (λ (y : Turn). y.answer) turns (t ∷ []));
  rooms = map-append (λ (x : Received). x.room) a.entries (e ∷ [])
      ∙ ap (λ (l : List ℕ). l ++ e.room ∷ []) a.rooms
      ∙ ap (λ n. map (λ (y : Turn). 1505) turns ++ n ∷ []) room
      ∙ sym (map-append (λ (y : Turn). 1505) turns (t ∷ []));
  prompt = λ k d lt. subst (λ (s : Sent). IsPrompt nest (take k (turns ++ t ∷ [])) old.sent s
      (get_or (a.entries ++ e ∷ []) k d)) (sym same) (by k d lt (nat_lt k (length turns)) refl);
}
  where
    long : length a.entries ≡ length turns
    long = sym (length-map a.entries (λ (x : Received). x.answer)) ∙ ap length a.answers
        ∙ length-map turns (λ (y : Turn). y.answer)

    by : (k : ℕ) (d : Received) → k < length (turns ++ t ∷ []) → (b : Bool) → nat_lt k (length turns) ≡ b
        → IsPrompt nest (take k (turns ++ t ∷ [])) old.sent now.sent (get_or (a.entries ++ e ∷ []) k d)
    by k d lt true f =
        let low : k < length turns = search (rules, tests) in
        let l : length a.entries ≡ length turns = long in
        let within : k < length a.entries = omega arith in
        let same_turns = take-append-le k turns (t ∷ []) (omega arith) in
        let entry = get_or-append a.entries (e ∷ []) d k within in
        subst (λ (l : List Turn). IsPrompt nest l old.sent now.sent (get_or (a.entries ++ e ∷ []) k d)) (sym same_turns)
        (subst (IsPrompt nest (take k turns) old.sent now.sent) (sym entry) (a.prompt k d low))
    by k d lt false f =
        let high : length turns ≤ k = search (rules, tests) in
        let total = length-append turns (t ∷ []) in
        let l : length a.entries ≡ length turns = long in
        let at : k ≡ length turns = omega arith in
        let at_entry : k ≡ length a.entries = omega arith in
        let same_turns : take k (turns ++ t ∷ []) ≡ turns =
        ap (λ n. take n (turns ++ t ∷ [])) at ∙ take-append_seam turns (t ∷ []) in
        let entry : get_or (a.entries ++ e ∷ []) k d ≡ e =
        ap (λ n. get_or (a.entries ++ e ∷ []) n d) at_entry ∙ get_or-append_seam a.entries e [] d in
        subst (λ (l : List Turn). IsPrompt nest l old.sent now.sent (get_or (a.entries ++ e ∷ []) k d)) (sym same_turns)
        (subst (IsPrompt nest turns old.sent now.sent) (sym entry)
        (prompt_now nest turns old.sent now.sent e sent client server))

pub asked_none : (nest : NestParts) (start : WireTold) → HasAsked nest [] start start
asked_none nest start = record {
  entries = [];
  received = sym (append-nil start.received);
  answers = refl;
  rooms = refl;
  prompt = λ k e lt. absurd (omega arith);
}
