-- The bytes of exchanges, one message more.
use Rattle.std.proofs.Common.{◌≡◌, ◌∙◌, ℕ, List, [], ◌∷◌, ◌++◌, map, Some, None, sym, ap, append_assoc, append-nil}
use Rattle.std.proofs.lemmas.List.{map-append}
use Rattle.std.proofs.lemmas.Grind.{flat_map-append}
use Rattle.http_frame.specs.declared.messages.Request.{Request}
use Rattle.http_frame.specs.declared.messages.Response.{Response}
use Rattle.record_proxy.specs.Exchanges.{Exchange, requests_text, answers_text, responses_text, answer_text, recorded}
use Rattle.record_proxy.specs.Courses.{Begun, course, sent, got}

abbrev pub begun : Request → List Response → Begun
begun request interim = record { request = request; interim = interim }

abbrev pub exchange : Request → List Response → Response → Exchange
exchange request interim final = record { request = request; interim = interim; final = final }

pub requests_push : (es : List Exchange) (e : Exchange) → requests_text (es ++ e ∷ []) ≡ requests_text es
    ++ e.request.bytes
requests_push es e =
    flat_map-append (λ (x : Exchange). x.request.bytes) es (e ∷ [])
    ∙ ap (λ l. requests_text es ++ l) (append-nil e.request.bytes)

pub answers_push : (es : List Exchange) (e : Exchange) → answers_text (es ++ e ∷ []) ≡ answers_text es ++ answer_text e
answers_push es e =
    flat_map-append answer_text es (e ∷ []) ∙ ap (λ l. answers_text es ++ l) (append-nil (answer_text e))

pub responses_push : (ms : List Response) (m : Response) → responses_text (ms ++ m ∷ []) ≡ responses_text ms ++ m.bytes
responses_push ms m =
    flat_map-append (λ (x : Response). x.bytes) ms (m ∷ [])
    ∙ ap (λ l. responses_text ms ++ l) (append-nil m.bytes)

pub recorded_push : (port : ℕ) (es : List Exchange) (e : Exchange)
    → map (recorded port) (es ++ e ∷ []) ≡ map (recorded port) es ++ recorded port e ∷ []
recorded_push port es e = map-append (recorded port) es (e ∷ [])

-- ---- a request is passed on

-- what was sent, before an exchange begins
pub sent_whole : (es : List Exchange) → sent (course es None) ≡ requests_text es
sent_whole es = append-nil (requests_text es)

pub got_whole : (es : List Exchange) → got (course es None) ≡ answers_text es
got_whole es = append-nil (answers_text es)

pub sent_begun : (es : List Exchange) (m : Request) (rest : List ℕ)
    → sent (course es None) ++ (m.bytes ++ rest) ≡ sent (course es (Some (begun m []))) ++ rest
sent_begun es m rest =
    ap (λ l. l ++ (m.bytes ++ rest)) (sent_whole es) ∙ sym (append_assoc (requests_text es) m.bytes rest)

pub given_begun : (es : List Exchange) (m : Request) → sent (course es None) ++ m.bytes ≡ sent
    (course es (Some (begun m [])))
given_begun es m = ap (λ l. l ++ m.bytes) (sent_whole es)

-- ---- an interim response is passed on

pub given_interim : (es : List Exchange) (m : Request) (ms : List Response) (r : Response)
    → got (course es (Some (begun m ms))) ++ r.bytes ≡ got (course es (Some (begun m (ms ++ r ∷ []))))
given_interim es m ms r =
    append_assoc (answers_text es) (responses_text ms) r.bytes
    ∙ ap (λ l. answers_text es ++ l) (sym (responses_push ms r))

pub got_interim : (es : List Exchange) (m : Request) (ms : List Response) (r : Response) (rest : List ℕ)
    → got (course es (Some (begun m ms))) ++ (r.bytes ++ rest) ≡ got (course es (Some (begun m (ms ++ r ∷ [])))) ++ rest
got_interim es m ms r rest =
    sym (append_assoc (got (course es (Some (begun m ms)))) r.bytes rest)
    ∙ ap (λ l. l ++ rest) (given_interim es m ms r)

-- ---- the final response is passed on

pub given_final : (es : List Exchange) (m : Request) (ms : List Response) (r : Response)
    → got (course es (Some (begun m ms))) ++ r.bytes ≡ got (course (es ++ exchange m ms r ∷ []) None)
given_final es m ms r =
    append_assoc (answers_text es) (responses_text ms) r.bytes
    ∙ sym (answers_push es (exchange m ms r)) ∙ sym (got_whole (es ++ exchange m ms r ∷ []))

pub got_final : (es : List Exchange) (m : Request) (ms : List Response) (r : Response) (rest : List ℕ)
    → got (course es (Some (begun m ms))) ++ (r.bytes ++ rest) ≡ got (course (es ++ exchange m ms r ∷ []) None) ++ rest
got_final es m ms r rest =
    sym (append_assoc (got (course es (Some (begun m ms)))) r.bytes rest)
    ∙ ap (λ l. l ++ rest) (given_final es m ms r)

pub sent_final : (es : List Exchange) (m : Request) (ms : List Response) (r : Response)
    → sent (course es (Some (begun m ms))) ≡ sent (course (es ++ exchange m ms r ∷ []) None)
sent_final es m ms r =
    sym (requests_push es (exchange m ms r)) ∙ sym (sent_whole (es ++ exchange m ms r ∷ []))
