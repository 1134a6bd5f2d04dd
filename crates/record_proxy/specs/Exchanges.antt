-- Exchanges: a request, the interim responses to it, and its final response (RFC 9110, section 15).
use Rattle.std.specs.Prelude.{◌≡◌, ◌≤◌, ◌<◌, ◌||◌, ℕ, Bool, true, false, List, [], ◌∷◌, ◌++◌, All}
use Rattle.std.specs.List.{flat_map}
use Rattle.http_frame.specs.Runs.{IsRequestOf, IsResponseOf}
use Rattle.http_frame.specs.declared.messages.Request.{Request}
use Rattle.http_frame.specs.declared.messages.Response.{Response}
use Rattle.record_store.specs.declared.record.Record.{Record}

-- a request, the interim responses to it in order, and its final response
pub record Exchange : Type 0 where
  pub request : Request
  pub interim : List Response
  pub final : Response

-- a whole response to that request, of a status below 200
pub record IsInterimTo (request : Request) (m : Response) : Type 0 where
  pub is : IsResponseOf request.head.head_only m
  pub status : m.head.status < 200

-- a whole request, and whole responses to it, of which the last alone is final
pub record IsExchange (e : Exchange) : Type 0 where
  pub request : IsRequestOf e.request
  pub interim : All (IsInterimTo e.request) e.interim
  pub final : IsResponseOf e.request.head.head_only e.final
  pub status : 200 ≤ e.final.head.status

-- the bytes of responses, one after the other
abbrev pub responses_text : List Response → List ℕ
responses_text ms = flat_map (λ (m : Response). m.bytes) ms

-- the bytes of all responses of an exchange
abbrev pub answer_text : Exchange → List ℕ
answer_text e = responses_text e.interim ++ e.final.bytes

-- the bytes of the requests, and of all responses, of exchanges
abbrev pub requests_text : List Exchange → List ℕ
requests_text es = flat_map (λ (e : Exchange). e.request.bytes) es

abbrev pub answers_text : List Exchange → List ℕ
answers_text es = flat_map answer_text es

-- the request or the final response closes the connection (RFC 9112, section 9.3)
abbrev pub closes : Exchange → Bool
closes e = e.request.head.closes || e.final.head.closes

-- none closes
abbrev pub AllOpen : List Exchange → Type 0
AllOpen es = All (λ (e : Exchange). closes e ≡ false) es

-- the last closes, and no other
pub record LastCloses (es : List Exchange) : Type 0 where
  pub before : List Exchange
  pub last : Exchange
  pub split : es ≡ before ++ last ∷ []
  pub open_ones : AllOpen before
  pub closing : closes last ≡ true

-- the record of an exchange with the site at a port
abbrev pub recorded : ℕ → Exchange → Record
recorded port e = record { port = port; request = e.request; response = e.final }
