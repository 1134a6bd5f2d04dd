-- What passed is the pairs of its requests and responses.
use Rattle.std.proofs.Common.{◌≡◌, ◌∙◌, ◌<◌, inl, inr, ℕ, Bool, true, false, List, [], ◌∷◌, ◌++◌, map, refl, sym, ap}
use Rattle.std.proofs.Common.{subst, append_assoc, Ok, Err}
use Rattle.std.specs.Prelude.{◌⊎◌, ◌||◌, ◌==◌, All, Result, codes, nat_lt, if◌then◌else◌}
use Rattle.std.proofs.Math.Bool.{true≢false}
use Rattle.std.proofs.lemmas.Bool.{lt-ltb}
use Rattle.std.proofs.lemmas.List.Concat.{flat_map-cons}
use Rattle.std.proofs.lemmas.List.Elements.{All-head, All-tail}
use Rattle.httparse.specs.Grammar.{status_code}
use Rattle.httparse.specs.Spans.{name_and_value}
use Rattle.http_frame.specs.Fields.{values_of}
use Rattle.http_frame.specs.Framing.{response_rule, is_refused_status, coding_rule}
use Rattle.http_frame.specs.Messages.{MayStop}
use Rattle.http_frame.specs.Forms.{ends_late}
use Rattle.http_frame.specs.Runs.{AreRequests}
use Rattle.http_frame.specs.declared.errors.FrameError.{FrameError}
use Rattle.http_frame.specs.declared.errors.FrameError.TheVariants as errors
use Rattle.http_frame.specs.declared.framing.Framing.{Framing}
use Rattle.http_frame.specs.declared.framing.Framing.TheVariants.{Length, Chunked, ToEnd}
use Rattle.http_frame.specs.declared.messages.Request.{Request}
use Rattle.http_frame.specs.declared.messages.Response.{Response}
use Rattle.http_frame.specs.declared.messages.ResponseHead.{ResponseHead}
use Rattle.record_store.specs.Pairs.{Pairs, IsAnswer, AreInterim, AreAnswers}
use Rattle.record_proxy.specs.Exchanges.{Exchange, IsExchange, IsInterimTo, AllOpen, LastCloses, closes, recorded}
use Rattle.record_proxy.specs.Exchanges.{requests_text, answers_text, responses_text, answer_text}

-- ---- bodies of interim responses

abbrev rule_of : Bool → Bool → Result Framing FrameError → Result Framing FrameError
rule_of refused no_body other = if refused then Err errors.Refused else if no_body then Ok (Length 0) else other

abbrev ends_so : Result Framing FrameError → Bool
ends_so (Ok framing) = ends_late framing
ends_so (Err e) = false

never_late : (refused : Bool) (other : Result Framing FrameError) → ends_so (rule_of refused true other) ≡ false
never_late true other = refl
never_late false other = refl

low_status : (to_head a b : Bool) → (to_head || true || a || b) ≡ true
low_status true a b = refl
low_status false a b = refl

framing_of : (to_head : Bool) (status : ℕ) (codings lengths : List (List ℕ)) (framing : Framing)
    → nat_lt status 200 ≡ true → response_rule to_head status codings lengths ≡ Ok framing → ends_late framing ≡ false
framing_of to_head status codings lengths framing low e =
    sym (ap ends_so e)
    ∙ ap (λ lower. ends_so (rule_of (is_refused_status status) (to_head || lower || status == 204 || status == 304)
    (coding_rule codings lengths))) low
    ∙ ap (λ none. ends_so (rule_of (is_refused_status status) none (coding_rule codings lengths)))
    (low_status to_head (status == 204) (status == 304))
    ∙ never_late (is_refused_status status) (coding_rule codings lengths)

stops_early : (framing : Framing) (after : List ℕ) → ends_late framing ≡ false → MayStop framing true after
stops_early (Length n) after e = tt
stops_early Chunked after e = tt
stops_early ToEnd after e = absurd (true≢false e)

stops_last : (framing : Framing) → MayStop framing true []
stops_last (Length n) = tt
stops_last Chunked = tt
stops_last ToEnd = (refl, refl)

interim_stops : (m : Request) (r : Response) (x : IsInterimTo m r) (after : List ℕ)
    → MayStop x.is.is.framing true after
interim_stops m r x after =
    let status : r.head.status ≡ status_code x.is.tree = ap (λ (h : ResponseHead). h.status) x.is.says in
    let low : status_code x.is.tree < 200 = subst (λ n. n < 200) status x.status in
    let fields = map name_and_value x.is.tree.fields in
    stops_early x.is.is.framing after
    (framing_of m.head.head_only (status_code x.is.tree) (values_of (codes "transfer-encoding") fields)
    (values_of (codes "content-length") fields) x.is.is.framing (lt-ltb (status_code x.is.tree) 200 low)
    x.is.is.framed)

-- ---- the last of the exchanges that began alone may close

-- only the last may
abbrev OpenBut : List Exchange → Type 0
OpenBut [] = Unit {0}
OpenBut (e ∷ []) = Unit {0}
OpenBut (e ∷ f ∷ es) = (closes e ≡ false) × OpenBut (f ∷ es)

abbrev is_open : Exchange → Type 0
is_open e = closes e ≡ false

open_but : (es : List Exchange) → AllOpen es → OpenBut es
open_but [] x = tt
open_but (e ∷ []) x = tt
open_but (e ∷ f ∷ es) x = (All-head is_open e (f ∷ es) x, open_but (f ∷ es) (All-tail is_open e (f ∷ es) x))

open_push : (es : List Exchange) (last : Exchange) → AllOpen es → OpenBut (es ++ last ∷ [])
open_push [] last x = tt
open_push (e ∷ []) last x = (All-head is_open e [] x, tt)
open_push (e ∷ f ∷ es) last x =
    (All-head is_open e (f ∷ es) x, open_push (f ∷ es) last (All-tail is_open e (f ∷ es) x))

pub in_turn_but : (es : List Exchange) → AllOpen es ⊎ LastCloses es → OpenBut es
in_turn_but es x = elim x [
  | inl a ↦ open_but es a
  | inr b ↦ subst OpenBut (sym b.split) (open_push b.before b.last b.open_ones)
]

or_false : (a b : Bool) → (a || b) ≡ false → b ≡ false
or_false true b e = absurd (true≢false e)
or_false false b e = e

or_false_left : (a b : Bool) → (a || b) ≡ false → a ≡ false
or_false_left true b e = e
or_false_left false b e = refl

-- a final response after which others come doesn't end by closing
final_stops : (e : Exchange) (x : IsExchange e) (es : List Exchange) → OpenBut (e ∷ es)
    → MayStop x.final.is.framing true (answers_text es)
final_stops e x [] o = stops_last x.final.is.framing
final_stops e x (f ∷ es) o =
    stops_early x.final.is.framing (answers_text (f ∷ es))
    (or_false_left (ends_late x.final.is.framing) _
    (sym (ap (λ (h : ResponseHead). h.closes) x.final.says)
    ∙ or_false e.request.head.closes e.final.head.closes o.0))

rest_open : (e : Exchange) (es : List Exchange) → OpenBut (e ∷ es) → OpenBut es
rest_open e [] o = tt
rest_open e (f ∷ es) o = o.1

-- ---- the pairs

are_requests : (es : List Exchange) → All IsExchange es
    → AreRequests (requests_text es) (map (λ (e : Exchange). e.request) es) []
are_requests [] x = refl
are_requests (e ∷ es) x = (
  (All-head IsExchange e es x).request,
  requests_text es,
  flat_map-cons (λ (y : Exchange). y.request.bytes) e es,
  are_requests es (All-tail IsExchange e es x),
)

are_interim : (m : Request) (ms : List Response) (rest : List ℕ) → All (IsInterimTo m) ms
    → AreInterim m.head.head_only (responses_text ms ++ rest) ms rest
are_interim m [] rest x = refl
are_interim m (r ∷ ms) rest x =
    let one = All-head (IsInterimTo m) r ms x in (
      responses_text ms ++ rest,
      record {
        is = one.is;
        split = ap (λ l. l ++ rest) (flat_map-cons (λ (y : Response). y.bytes) r ms)
            ∙ append_assoc r.bytes (responses_text ms) rest;
        stops = interim_stops m r one (responses_text ms ++ rest);
      },
      one.status,
      are_interim m ms rest (All-tail (IsInterimTo m) r ms x),
    )

is_answer : (e : Exchange) (x : IsExchange e) (es : List Exchange) → OpenBut (e ∷ es)
    → IsAnswer e.request.head.head_only (answers_text (e ∷ es)) e.final (answers_text es)
is_answer e x es o = record {
  before = e.final.bytes ++ answers_text es;
  passed = (
    e.interim,
    subst (λ l. AreInterim e.request.head.head_only l e.interim (e.final.bytes ++ answers_text es))
        (sym (append_assoc (responses_text e.interim) e.final.bytes (answers_text es))
        ∙ sym (flat_map-cons answer_text e es))
        (are_interim e.request e.interim (e.final.bytes ++ answers_text es) x.interim),
  );
  is = record { is = x.final; split = refl; stops = final_stops e x es o };
  final = x.status;
}

are_answers : (port : ℕ) (es : List Exchange) → All IsExchange es → OpenBut es
    → AreAnswers port (answers_text es) (map (λ (e : Exchange). e.request) es) (map (recorded port) es) []
are_answers port [] x o = refl
are_answers port (e ∷ es) x o = (
  answers_text es,
  refl,
  refl,
  is_answer e (All-head IsExchange e es x) es o,
  are_answers port es (All-tail IsExchange e es x) (rest_open e es o),
)

pub are_pairs : (port : ℕ) (es : List Exchange) → All IsExchange es → AllOpen es ⊎ LastCloses es
    → Pairs (requests_text es) (answers_text es) port (Ok (map (recorded port) es))
are_pairs port es x turn = (
  map (λ (e : Exchange). e.request) es,
  are_requests es x,
  are_answers port es x (in_turn_but es turn),
)
