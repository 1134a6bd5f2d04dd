-- A relay in its course.
use Rattle.std.proofs.Common.{◌≡◌, ◌⊎◌, true, false, inl, inr, ℕ, suc, ◌≤◌, ◌<◌, ◌+◌, List, [], ◌∷◌, ◌++◌, Option, Some}
use Rattle.std.proofs.Common.{IfOk, OnErr, Result, length, map, ap, sym, subst, ◌∙◌, refl, arith}
use Rattle.std.proofs.lemmas.List.{append-nil, length-append, map-append}
use Rattle.nest_spec.specs.Nests.{NestParts, result_of, until}
use Rattle.nest_spec.specs.Once.{HaveOneFate}
use Rattle.nest_spec.specs.Walk.{last_of}
use Rattle.live_relay.specs.declared.outcome.RelayEnd.TheVariants.{Horizon, Turns, User}
use Rattle.live_relay.specs.declared.outcome.RelayResult.{RelayResult}
use Rattle.live_relay.specs.declared.relay_state.Relay.{Relay}
use Rattle.live_relay.specs.declared.side.Side.TheVariants.{Client, Server}
use Rattle.live_relay.specs.Clocks.{ClockView, Reads}
use Rattle.live_relay.specs.Due.{due, last_moment}
use Rattle.live_relay.specs.Relays.{AreWithin, HasAsked, HasSent, HasSentSome, IfTold, IsRelayed, IsStopped}
use Rattle.live_relay.specs.Relays.{but_last, EndsBy, IsEndOf, moments_read, nest_at, NeverBefore, ReadsBeyond, ReadsTurns}
use Rattle.live_relay.specs.Stamped.{Turn, rows_of}
use Rattle.live_relay.specs.inside.Stamped.{turn}
use Rattle.live_relay.specs.inside.Turns.{EndsAt, HasResult, IsCurrent, IsTurned, Stands, StopsAt, ToldBefore}
use Rattle.live_relay.specs.Wires.{Datagram, WireTold, WireView}
use Rattle.live_relay.proofs.Asking.{asked_none, front_whole, last_snoc, last_turn, within-snoc}
use Rattle.live_relay.proofs.ClockLemmas.{reads_none, reads_on}

pub record Course (nest : NestParts) (k : ℕ) (old_clock clock : ClockView) (old_wire wire : WireView) (relay : Relay)
    (last : ℕ) : Type 0 where
  pub turns : List Turn
  pub count : length turns ≡ k
  pub current : IsCurrent nest turns relay
  pub within : AreWithin nest.horizon turns
  pub last_is : last ≡ last_moment turns
  pub latest : 1 ≤ k → clock.latest ≡ last
  pub before : last ≤ clock.latest
  pub rises : NeverBefore old_clock.latest turns
  pub since : last_of old_clock.latest (map (λ (t : Turn). t.moment) turns) ≤ clock.latest
  pub moments : Reads (map (λ (t : Turn). t.moment) turns) old_clock.moments clock.moments
  pub asked : wire.asked ≡ old_wire.asked + length turns
  pub told : ToldBefore old_wire wire
  pub goes : IfTold old_wire wire (λ start now. HasAsked nest turns start now
      × HasSent nest turns (last_moment turns) start.sent now.sent)

-- what comes of a wire that tells, through a wire between
goes_through : (nest : NestParts) (turns : List Turn) (old mid new : WireView) (P : WireTold → WireTold → Type 0)
    → ToldBefore mid new
    → IfTold old mid (λ start now. HasAsked nest turns start now × HasSent nest turns (last_moment turns) start.sent
    now.sent)
    → ((start before now : WireTold) → mid.told ≡ Some before → new.told ≡ Some now → HasAsked nest turns start before
    → HasSent nest turns (last_moment turns) start.sent before.sent → P start now)
    → IfTold old new P
goes_through nest turns old mid new P told goes then start now s e =
    let before = told now e in
    let had = goes start before.0 s before.1 in
    then start before.0 now before.1 e had.0 had.1

told_through : (old mid new : WireView) → ToldBefore old mid → ToldBefore mid new → ToldBefore old new
told_through old mid new a b now e = let m = b now e in a m.0 m.1

turn_long : (turns : List Turn) (t : Turn) → length (turns ++ t ∷ []) ≡ suc (length turns)
turn_long turns t = let e = length-append turns (t ∷ []) in omega arith

moments-snoc : (turns : List Turn) (t : Turn) → map (λ (x : Turn). x.moment) (turns ++ t ∷ [])
    ≡ map (λ (x : Turn). x.moment) turns ++ t.moment ∷ []
moments-snoc turns t = map-append (λ (x : Turn). x.moment) turns (t ∷ [])

never_before-snoc : (low : ℕ) (turns : List Turn) (t : Turn) → NeverBefore low turns
    → last_of low (map (λ (x : Turn). x.moment) turns) ≤ t.moment → NeverBefore low (turns ++ t ∷ [])
never_before-snoc low [] t rises le = (le, tt)
never_before-snoc low (x ∷ turns) t rises le = (rises.0, never_before-snoc x.moment turns t rises.1 le)

pub course_turned : (nest : NestParts) (k m : ℕ) (old_clock clock clock' : ClockView) (old_wire wire wire' : WireView)
    (relay relay' : Relay) (last : ℕ) (c : Course nest k old_clock clock old_wire wire relay last)
    → clock'.latest ≡ m → clock.latest ≤ m → Reads (m ∷ []) clock.moments clock'.moments → m ≤ nest.horizon
    → IsTurned nest c.turns m wire wire' relay'
    → Course nest (k + 1) old_clock clock' old_wire wire' relay' m
course_turned nest k m old_clock clock clock' old_wire wire wire' relay relay' last c latest later reads le is =
    let t = turn m is.answer in
    let count = c.count in
    let long = turn_long c.turns t in
    let asked = c.asked in
    let one = is.asked in
    let last_is = last_turn c.turns t in
    let since = c.since in
    record {
      turns = c.turns ++ t ∷ [];
      count = omega arith;
      current = is.current;
      within = within-snoc nest.horizon c.turns t c.within le;
      last_is = sym last_is;
      latest = λ some. latest;
      before = omega arith;
      rises = never_before-snoc old_clock.latest c.turns t c.rises (omega arith);
      since = let end = ap (last_of old_clock.latest) (moments-snoc c.turns t)
          ∙ last_snoc old_clock.latest (map (λ (x : Turn). x.moment) c.turns) m in omega arith;
      moments = subst (λ (l : List ℕ). Reads l old_clock.moments clock'.moments) (sym (moments-snoc c.turns t))
          (reads_on _ (m ∷ []) old_clock.moments clock.moments clock'.moments c.moments reads);
      asked = omega arith;
      told = told_through old_wire wire wire' c.told is.told;
      goes = goes_through nest c.turns old_wire wire wire' _ is.told c.goes (λ start before now s e a h.
          let g = is.goes start before now s e a h in
          (g.0, subst (λ n. HasSent nest (c.turns ++ t ∷ []) n start.sent now.sent) (sym last_is) g.1));
    }

pub course_stops : (nest : NestParts) (k limit m : ℕ) (old_clock clock clock' : ClockView)
    (old_wire wire wire' : WireView) (relay : Relay) (last : ℕ)
    (c : Course nest k old_clock clock old_wire wire relay last)
    → k < limit → clock'.latest ≡ m → Reads (m ∷ []) clock.moments clock'.moments
    → (s : StopsAt nest c.turns m wire wire') → (s.all ≡ c.turns) ⊎ (m ≤ nest.horizon)
    → IsStopped nest limit old_clock clock' old_wire wire'
course_stops nest k limit m old_clock clock clock' old_wire wire wire' relay last c lt latest reads s within = record {
  turns = s.all;
  few = by_few s.are;
  within = by_within within s.are;
  asked = let asked = c.asked in let more = s.asked in omega arith;
  moments = by_moments s.are;
  received = goes_through nest c.turns old_wire wire wire' _ s.told c.goes (λ start before now a b asked sent.
      (s.goes start before now a b asked sent).0);
  sent = goes_through nest c.turns old_wire wire wire' _ s.told c.goes (λ start before now a b asked sent.
      subst (λ n. HasSentSome nest s.all n start.sent now.sent) (sym latest)
      (s.goes start before now a b asked sent).1);
}
  where
    times : List Turn → List ℕ
    times turns = map (λ (t : Turn). t.moment) turns

    all_read : Reads (times c.turns ++ m ∷ []) old_clock.moments clock'.moments
    all_read = reads_on _ (m ∷ []) old_clock.moments clock.moments clock'.moments c.moments reads

    by_few : (s.all ≡ c.turns) ⊎ ((answer : Option Datagram) × (s.all ≡ c.turns ++ turn m answer ∷ []))
        → length s.all ≤ limit
    by_few (inl e) = let long = ap length e in let count = c.count in omega arith
    by_few (inr e) =
        let long = ap length e.1 in let one = turn_long c.turns (turn m e.0) in let count = c.count in omega arith

    by_within : (s.all ≡ c.turns) ⊎ (m ≤ nest.horizon)
        → (s.all ≡ c.turns) ⊎ ((answer : Option Datagram) × (s.all ≡ c.turns ++ turn m answer ∷ []))
        → AreWithin nest.horizon s.all
    by_within (inl same) e = subst (AreWithin nest.horizon) (sym same) c.within
    by_within (inr le) (inl e) = subst (AreWithin nest.horizon) (sym e) c.within
    by_within (inr le) (inr e) = subst (AreWithin nest.horizon) (sym e.1)
        (within-snoc nest.horizon c.turns (turn m e.0) c.within le)

    by_moments : (s.all ≡ c.turns) ⊎ ((answer : Option Datagram) × (s.all ≡ c.turns ++ turn m answer ∷ []))
        → ReadsTurns s.all old_clock clock' ⊎ ReadsBeyond limit s.all old_clock clock'
    by_moments (inl e) = inr (record {
      moments = subst (λ (l : List Turn). Reads (times l ++ clock'.latest ∷ []) old_clock.moments clock'.moments)
          (sym e) (subst (λ n. Reads (times c.turns ++ n ∷ []) old_clock.moments clock'.moments) (sym latest) all_read);
      fewer = let long = ap length e in let count = c.count in omega arith;
    })
    by_moments (inr e) = inl (record {
      moments = subst (λ (l : List Turn). Reads (times l) old_clock.moments clock'.moments) (sym e.1)
          (subst (λ (l : List ℕ). Reads l old_clock.moments clock'.moments) (sym (moments-snoc c.turns (turn m e.0)))
          all_read);
      latest = λ some. latest ∙ sym (last_turn c.turns (turn m e.0)) ∙ ap last_moment (sym e.1);
    })

-- what was sent is all that was due
pub sent_some : (nest : NestParts) (turns : List Turn) (start now : WireTold)
    → HasSent nest turns (last_moment turns) start.sent now.sent
    → HasSentSome nest turns (last_moment turns) start.sent now.sent
sent_some nest turns start now sent = record {
  to_client = due nest turns Client (last_moment turns);
  client = sent.client;
  client_front = front_whole (due nest turns Client (last_moment turns));
  to_server = due nest turns Server (last_moment turns);
  server = sent.server;
  server_front = front_whole (due nest turns Server (last_moment turns));
  order = inr (inr (front_whole (due nest turns Server (last_moment turns))));
}

pub course_wants : (nest : NestParts) (k limit : ℕ) (old_clock clock : ClockView) (old_wire wire : WireView)
    (relay : Relay) (last : ℕ) (c : Course nest k old_clock clock old_wire wire relay last) → 1 ≤ k → k ≤ limit
    → IsStopped nest limit old_clock clock old_wire wire
course_wants nest k limit old_clock clock old_wire wire relay last c some le =
    let at : clock.latest ≡ last_moment c.turns = c.latest some ∙ c.last_is in
    record {
      turns = c.turns;
      few = let count = c.count in omega arith;
      within = c.within;
      asked = c.asked;
      moments = inl (record { moments = c.moments; latest = λ some. at });
      received = λ start now s e. (c.goes start now s e).0;
      sent = λ start now s e. subst (λ n. HasSentSome nest c.turns n start.sent now.sent) (sym at)
          (sent_some nest c.turns start now (c.goes start now s e).1);
    }

pub course_ends : (nest : NestParts) (k limit : ℕ) (old_clock clock : ClockView) (old_wire wire : WireView)
    (relay : Relay) (last : ℕ) (r : RelayResult) (c : Course nest k old_clock clock old_wire wire relay last)
    → k ≡ limit → 1 ≤ limit → clock.ended ≡ false → HasResult nest c.turns Turns last r
    → IsRelayed nest limit old_clock clock old_wire wire r
course_ends nest k limit old_clock clock old_wire wire relay last r c all some going h =
    let at : r.last ≡ last_moment c.turns = h.last_is ∙ c.last_is in
    record {
      turns = c.turns;
      within = c.within;
      ends = subst (λ e. EndsBy e limit nest.horizon c.turns r.last) (sym h.end_is) (c.count ∙ all, at);
      latest = h.last_is ∙ sym (c.latest (subst (λ n. 1 ≤ n) (sym all) some));
      ended = subst (λ e. IsEndOf e clock.ended) (sym h.end_is) going;
      moments = subst (λ e. Reads (moments_read e c.turns r.last) old_clock.moments clock.moments) (sym h.end_is)
          c.moments;
      rises = c.rises;
      asked = c.asked;
      rows = h.rows;
      refused = h.refused;
      run = subst (λ e. r.run ≡ result_of (nest_at e nest r.last) (rows_of c.turns)) (sym h.end_is) h.run;
      once = subst (λ e. HaveOneFate (nest_at e nest r.last) (rows_of c.turns)) (sym h.end_is) h.once;
      received = λ start now s e. (c.goes start now s e).0;
      sent = λ start now s e. subst (λ n. HasSent nest c.turns n start.sent now.sent) (sym at)
          (c.goes start now s e).1;
    }

pub course_passes : (nest : NestParts) (k limit m : ℕ) (old_clock clock clock' : ClockView)
    (old_wire wire wire' : WireView) (relay : Relay) (last : ℕ) (r : RelayResult)
    (c : Course nest k old_clock clock old_wire wire relay last)
    → k < limit → clock'.latest ≡ m → Reads (m ∷ []) clock.moments clock'.moments → nest.horizon < m
    → EndsAt nest c.turns m wire wire' → HasResult nest c.turns Horizon m r
    → IsRelayed nest limit old_clock clock' old_wire wire' r
course_passes nest k limit m old_clock clock clock' old_wire wire wire' relay last r c lt latest reads late s h =
    let count = c.count in
    let last_is = h.last_is in
    record {
      turns = c.turns;
      within = c.within;
      ends = subst (λ e. EndsBy e limit nest.horizon c.turns r.last) (sym h.end_is) (omega arith, omega arith);
      latest = h.last_is ∙ sym latest;
      ended = subst (λ e. IsEndOf e clock'.ended) (sym h.end_is) tt;
      moments = subst (λ e. Reads (moments_read e c.turns r.last) old_clock.moments clock'.moments) (sym h.end_is)
          (subst (λ n. Reads (map (λ (t : Turn). t.moment) c.turns ++ n ∷ []) old_clock.moments clock'.moments)
          (sym h.last_is)
          (reads_on _ (m ∷ []) old_clock.moments clock.moments clock'.moments c.moments reads));
      rises = c.rises;
      asked = s.asked ∙ c.asked;
      rows = h.rows;
      refused = h.refused;
      run = subst (λ e. r.run ≡ result_of (nest_at e nest r.last) (rows_of c.turns)) (sym h.end_is) h.run;
      once = subst (λ e. HaveOneFate (nest_at e nest r.last) (rows_of c.turns)) (sym h.end_is) h.once;
      received = goes_through nest c.turns old_wire wire wire' _ s.told c.goes (λ start before now a b asked sent.
          (s.goes start before now a b asked sent).0);
      sent = goes_through nest c.turns old_wire wire wire' _ s.told c.goes (λ start before now a b asked sent.
          subst (λ n. HasSent nest c.turns n start.sent now.sent) (sym h.last_is)
          (s.goes start before now a b asked sent).1);
    }

-- its user had ended by the last turn
pub course_over : (nest : NestParts) (k limit : ℕ) (old_clock clock : ClockView) (old_wire wire : WireView)
    (relay : Relay) (last : ℕ) (r : RelayResult) (c : Course nest k old_clock clock old_wire wire relay last)
    → 1 ≤ k → k ≤ limit → clock.ended ≡ true → HasResult (until last nest) c.turns User last r
    → IsRelayed nest limit old_clock clock old_wire wire r
course_over nest k limit old_clock clock old_wire wire relay last r c some le over h =
    let at : r.last ≡ last_moment c.turns = h.last_is ∙ c.last_is in
    let count = c.count in
    record {
      turns = c.turns;
      within = c.within;
      ends = subst (λ e. EndsBy e limit nest.horizon c.turns r.last) (sym h.end_is) (omega arith, omega arith, at);
      latest = h.last_is ∙ sym (c.latest some);
      ended = subst (λ e. IsEndOf e clock.ended) (sym h.end_is) over;
      moments = subst (λ e. Reads (moments_read e c.turns r.last) old_clock.moments clock.moments) (sym h.end_is)
          c.moments;
      rises = c.rises;
      asked = c.asked;
      rows = h.rows;
      refused = h.refused;
      run = subst (λ e. r.run ≡ result_of (nest_at e nest r.last) (rows_of c.turns)) (sym h.end_is)
          (subst (λ n. r.run ≡ result_of (until n nest) (rows_of c.turns)) (sym h.last_is) h.run);
      once = subst (λ e. HaveOneFate (nest_at e nest r.last) (rows_of c.turns)) (sym h.end_is)
          (subst (λ n. HaveOneFate (until n nest) (rows_of c.turns)) (sym h.last_is) h.once);
      received = λ start now s e. (c.goes start now s e).0;
      sent = λ start now s e. subst (λ n. HasSent nest c.turns n start.sent now.sent) (sym at)
          (c.goes start now s e).1;
    }

pub stands_in : (nest : NestParts) (k m : ℕ) (old_clock clock : ClockView) (old_wire wire : WireView) (relay : Relay)
    (last : ℕ) (c : Course nest k old_clock clock old_wire wire relay last) → last ≤ m → Stands nest m relay
stands_in nest k m old_clock clock old_wire wire relay last c le =
    record { turns = c.turns; current = c.current; before = subst (λ n. n ≤ m) c.last_is le }

same_told : (told : Option WireTold) (a b : WireTold) → told ≡ Some a → told ≡ Some b → b ≡ a
same_told told a b e f = let both : Some b ≡ Some a = sym f ∙ e in cc both

-- before anything was read or asked
pub stops_first : (nest : NestParts) (limit : ℕ) (clock : ClockView) (wire : WireView)
    → IsStopped nest limit clock clock wire wire
stops_first nest limit clock wire = record {
  turns = [];
  few = omega arith;
  within = tt;
  asked = omega arith;
  moments = inl (record { moments = reads_none clock.moments; latest = λ some. absurd (omega arith) });
  received = λ start now s e. subst (HasAsked nest [] start) (sym (same_told wire.told start now s e))
      (asked_none nest start);
  sent = λ start now s e. subst (λ (w : WireTold). HasSentSome nest [] clock.latest start.sent w.sent)
      (sym (same_told wire.told start now s e)) (none_sent start);
}
  where
    none_sent : (start : WireTold) → HasSentSome nest [] clock.latest start.sent start.sent
    none_sent start = record {
      to_client = [];
      client = sym (append-nil start.sent.client);
      client_front = record { more = due nest [] Client clock.latest; is = refl };
      to_server = [];
      server = sym (append-nil start.sent.server);
      server_front = record { more = due nest [] Server clock.latest; is = refl };
      order = inl (record { more = due nest (but_last []) Client (last_moment (but_last [])); is = refl });
    }

-- the course before the first turn
pub course_begins : (nest : NestParts) (clock : ClockView) (wire : WireView) (relay : Relay)
    → IsCurrent nest [] relay → due nest [] Client 0 ≡ [] → due nest [] Server 0 ≡ []
    → Course nest 0 clock clock wire wire relay 0
course_begins nest clock wire relay current client server = record {
  turns = [];
  count = refl;
  current = current;
  within = tt;
  last_is = refl;
  latest = λ some. absurd (omega arith);
  before = omega arith;
  rises = tt;
  since = omega arith;
  moments = reads_none clock.moments;
  asked = omega arith;
  told = λ now e. (now, e);
  goes = λ start now s e. subst (λ (w : WireTold). HasAsked nest [] start w × HasSent nest [] 0 start.sent w.sent)
      (sym (same_told wire.told start now s e)) (
        asked_none nest start,
        record {
          client = sym (ap (λ (l : List (List ℕ)). start.sent.client ++ l) client ∙ append-nil start.sent.client);
          server = sym (ap (λ (l : List (List ℕ)). start.sent.server ++ l) server ∙ append-nil start.sent.server);
        },
      );
}

-- the same of two nests that are one
pub stopped_same : {T E : Type 0} (result : Result T E) (a b : NestParts) (limit : ℕ) (old_clock clock : ClockView)
    (old_wire wire : WireView) → a ≡ b → OnErr result (IsStopped a limit old_clock clock old_wire wire)
    → OnErr result (IsStopped b limit old_clock clock old_wire wire)
stopped_same result a b limit old_clock clock old_wire wire e stops =
    subst (λ (n : NestParts). OnErr result (IsStopped n limit old_clock clock old_wire wire)) e stops

pub relayed_same : {E : Type 0} (result : Result RelayResult E) (a b : NestParts) (limit : ℕ)
    (old_clock clock : ClockView) (old_wire wire : WireView) → a ≡ b
    → IfOk result (λ r. IsRelayed a limit old_clock clock old_wire wire r)
    → IfOk result (λ r. IsRelayed b limit old_clock clock old_wire wire r)
relayed_same result a b limit old_clock clock old_wire wire e done =
    subst (λ (n : NestParts). IfOk result (λ r. IsRelayed n limit old_clock clock old_wire wire r)) e done
