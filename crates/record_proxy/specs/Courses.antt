-- How far a proxied connection has come: which exchanges began, and what was taken and given.
use Rattle.std.specs.Prelude.{◌≡◌, ◌⊎◌, ◌<◌, ℕ, Bool, List, [], ◌++◌, length, All, Option, Some, None, IfSome}
use Rattle.httparse.specs.Grammar.{ResponseHead as Answer}
use Rattle.http_frame.specs.Forms.{response_form}
use Rattle.http_frame.specs.Frames.{FaultCause}
use Rattle.http_frame.specs.Messages.{IsResponse, MayStop}
use Rattle.http_frame.specs.Runs.{IsRequestOf, IsResponseOf, BeginsWithNone}
use Rattle.http_frame.specs.declared.errors.FrameError.{FrameError}
use Rattle.http_frame.specs.declared.framing.Framing.{Framing}
use Rattle.http_frame.specs.declared.framing.Framing.TheVariants.{Length, Chunked, ToEnd}
use Rattle.http_frame.specs.declared.messages.Request.{Request}
use Rattle.http_frame.specs.declared.messages.Response.{Response}
use Rattle.replay_server.specs.Sessions.{IsFront}
use Rattle.record_proxy.specs.Exchanges.{Exchange, IsExchange, IsInterimTo, AllOpen, LastCloses}
use Rattle.record_proxy.specs.Exchanges.{requests_text, answers_text, responses_text}

-- an exchange that has no final response yet: its request, and the interim responses to it so far
pub record Begun : Type 0 where
  pub request : Request
  pub interim : List Response

pub record IsBegun (b : Begun) : Type 0 where
  pub request : IsRequestOf b.request
  pub interim : All (IsInterimTo b.request) b.interim

abbrev pub request_text : Option Begun → List ℕ
request_text None = []
request_text (Some b) = b.request.bytes

abbrev pub interim_text : Option Begun → List ℕ
interim_text None = []
interim_text (Some b) = responses_text b.interim

-- The exchanges that began, in order: those that are whole, and after them at most one that isn't. The next begins
-- where its whole request was taken, the one before it is whole, and none closes.
pub record Course : Type 0 where
  pub whole : List Exchange
  pub begun : Option Begun

abbrev pub course : List Exchange → Option Begun → Course
course whole begun = record { whole = whole; begun = begun }

-- their requests
abbrev pub sent : Course → List ℕ
sent x = requests_text x.whole ++ request_text x.begun

-- their responses so far
abbrev pub got : Course → List ℕ
got x = answers_text x.whole ++ interim_text x.begun

-- where an exchange began after them, none of the whole ones closes, and else the last may
abbrev pub IsInTurn : List Exchange → Option Begun → Type 0
IsInTurn whole None = AllOpen whole ⊎ LastCloses whole
IsInTurn whole (Some b) = AllOpen whole

pub record IsCourse (x : Course) : Type 0 where
  pub whole : All IsExchange x.whole
  pub begun : IfSome x.begun IsBegun
  pub in_turn : IsInTurn x.whole x.begun

-- what was taken from a link, and what was given to it
pub record Side : Type 0 where
  pub taken : List ℕ
  pub given : List ℕ

pub record Sides : Type 0 where
  pub client : Side
  pub server : Side

-- The messages of these exchanges stand at the front of what was taken, and then come these rests.
pub record Runs (x : Course) (s : Sides) (client_rest server_rest : List ℕ) : Type 0 where
  pub is : IsCourse x
  pub requests : s.client.taken ≡ sent x ++ client_rest
  pub responses : s.server.taken ≡ got x ++ server_rest

-- And all of them were passed on, unchanged, and nothing else.
pub record Passes (x : Course) (s : Sides) (client_rest server_rest : List ℕ) : Type 0 where
  pub runs : Runs x s client_rest server_rest
  pub to_server : s.server.given ≡ sent x
  pub to_client : s.client.given ≡ got x

-- Each exchange that began is whole and passed on, none closes, and no further request begins the rest.
pub record IsIdle (s : Sides) (whole : List Exchange) (rest : List ℕ) : Type 0 where
  pub server_rest : List ℕ
  pub passes : Passes (course whole None) s rest server_rest
  pub open_ones : AllOpen whole
  pub none : BeginsWithNone rest

-- A response is due to the request of the last exchange that began; the server's bytes go on with this rest.
pub record IsDue (s : Sides) (whole : List Exchange) (b : Begun) (rest : List ℕ) : Type 0 where
  pub client_rest : List ℕ
  pub passes : Passes (course whole (Some b)) s client_rest rest

-- A message whose body ends by closing takes all that there is, and is whole only where the input is at its end.
abbrev pub StopsAt : Type 0 → Framing → List ℕ → Type 0
StopsAt Ended (Length n) after = Unit {0}
StopsAt Ended Chunked after = Unit {0}
StopsAt Ended ToEnd after = Ended × (after ≡ [])

-- The last exchange closes, and all are passed on. `Ended` says that the server's input is at its end.
pub record IsOver (Ended : Type 0) (s : Sides) (whole : List Exchange) : Type 0 where
  pub client_rest : List ℕ
  pub server_rest : List ℕ
  pub passes : Passes (course whole None) s client_rest server_rest
  pub last : LastCloses whole
  pub final : IsResponseOf last.last.request.head.head_only last.last.final
  pub stops : StopsAt Ended final.is.framing server_rest

-- A front of the response to that request which stands next, and not all of it. `Ended` says that the server's input is
-- at its end.
pub record IsPartOf (Ended : Type 0) (b : Begun) (rest part : List ℕ) : Type 0 where
  pub next : Response
  pub after : List ℕ
  pub is : IsResponseOf b.request.head.head_only next
  pub stands : rest ≡ next.bytes ++ after
  pub stops : StopsAt Ended is.is.framing after
  pub more : List ℕ
  pub split : next.bytes ≡ part ++ more
  pub some : 0 < length more

-- none of it, or a front that isn't all
abbrev pub IsPart : Type 0 → Option Begun → List ℕ → List ℕ → Type 0
IsPart Ended None rest part = part ≡ []
IsPart Ended (Some b) rest part = (part ≡ []) ⊎ IsPartOf Ended b rest part

-- What was passed on is a front of that: of the requests any, and of the responses all whole ones so far with a part of
-- the next.
pub record IsCut (Ended : Type 0) (s : Sides) (whole : List Exchange) : Type 0 where
  pub begun : Option Begun
  pub client_rest : List ℕ
  pub server_rest : List ℕ
  pub runs : Runs (course whole begun) s client_rest server_rest
  pub to_server : IsFront s.server.given (sent (course whole begun))
  pub part : List ℕ
  pub to_client : s.client.given ≡ got (course whole begun) ++ part
  pub is_part : IsPart Ended begun server_rest part

-- No whole response begins the rest. `ended` says that no byte follows.
abbrev pub LacksResponse : Bool → Bool → List ℕ → Type 0
LacksResponse to_head ended rest = (text after : List ℕ) (h : Answer) (r : IsResponse to_head text h)
    → rest ≡ text ++ after → MayStop r.framing ended after → ⊥

-- And it may still begin one, as far as the bytes that are there say.
pub record NeedsMore (to_head ended : Bool) (rest : List ℕ) : Type 0 where
  pub lacks : LacksResponse to_head ended rest
  pub may : (e : FrameError) → FaultCause (response_form to_head) ended rest e → ⊥

-- Or it never will, for this reason.
pub record IsFaulty (to_head ended : Bool) (rest : List ℕ) : Type 0 where
  pub lacks : LacksResponse to_head ended rest
  pub error : FrameError
  pub cause : FaultCause (response_form to_head) ended rest error
