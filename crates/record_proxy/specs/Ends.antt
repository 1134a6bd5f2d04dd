-- How a proxied connection ends, and what its reads found.
use Rattle.std.specs.Prelude.{◌≡◌, ◌⊎◌, ◌<◌, ℕ, Bool, true, false, List, [], ◌++◌, length, All, Result, Ok, Err}
use Rattle.http_frame.specs.Runs.{BeginsWithNone}
use Rattle.text_base.specs.declared.out_of_memory.OutOfMemory.{OutOfMemory}
use Rattle.mm_base.specs.declared.read_start.ReadStart.{ReadStart}
use Rattle.replay_server.specs.Sessions.{IsHopeless, MayGoOn, most}
use Rattle.record_proxy.specs.Exchanges.{Exchange, IsExchange, AllOpen, requests_text, answers_text, responses_text}
use Rattle.record_proxy.specs.Courses.{Begun, IsBegun, Side, Sides, IsIdle, IsDue, IsOver, IsCut, NeedsMore, IsFaulty}
use Rattle.record_proxy.specs.declared.ends.ProxyEnd.{ProxyEnd}
use Rattle.record_proxy.specs.declared.ends.ProxyEnd.TheVariants.{Closed, BadRequest, BadResponse, ClientFault}
use Rattle.record_proxy.specs.declared.ends.ProxyEnd.TheVariants.{ServerFault, Full}

abbrev pub to_head : Begun → Bool
to_head b = b.request.head.head_only

-- An input is at its end, and fewer bytes were taken than may be.
pub record EndsShort (Ended : Type 0) (taken : List ℕ) : Type 0 where
  pub ended : Ended
  pub few : length taken < most

-- The client's bytes end within a request, fewer than may be taken. They may still begin one, as far as they say.
pub record EndsInRequest (Ended : Type 0) (taken rest : List ℕ) : Type 0 where
  pub ends : EndsShort Ended taken
  pub some : 0 < length rest
  pub may : MayGoOn rest

-- The server's bytes end within a response that is due, or before it, fewer than may be taken.
pub record EndsInResponse (Ended : Type 0) (b : Begun) (taken rest : List ℕ) : Type 0 where
  pub ends : EndsShort Ended taken
  pub needs : NeedsMore (to_head b) true rest

-- No response will ever begin the server's rest. `Ended` says that its input is at its end.
pub record IsRefused (Ended : Type 0) (b : Begun) (rest : List ℕ) : Type 0 where
  pub ended : Bool
  pub is_ended : ended ≡ true → Ended
  pub faulty : IsFaulty (to_head b) ended rest

module _ (ClientEnded ServerEnded : Type 0) (s : Sides) (whole : List Exchange) where
  -- the server's input ended, and fewer bytes were taken of it than may be
  abbrev pub ServerEndsShort : Type 0
  ServerEndsShort = EndsShort ServerEnded s.server.taken

  -- the client's input ended between requests
  pub record IsLeft : Type 0 where
    pub ends : EndsShort ClientEnded s.client.taken
    pub idle : IsIdle s whole []

  -- a request is refused, or cut
  pub record IsBadRequest : Type 0 where
    pub rest : List ℕ
    pub idle : IsIdle s whole rest
    pub why : IsHopeless rest ⊎ EndsInRequest ClientEnded s.client.taken rest

  -- a response that is due is refused, or cut, or missing
  pub record IsBadResponse : Type 0 where
    pub begun : Begun
    pub rest : List ℕ
    pub due : IsDue s whole begun rest
    pub why : IsRefused ServerEndsShort begun rest ⊎ EndsInResponse ServerEnded begun s.server.taken rest

  -- more bytes are needed of the client, from which as many were taken as may be
  pub record IsClientFull : Type 0 where
    pub rest : List ℕ
    pub idle : IsIdle s whole rest
    pub all : length s.client.taken ≡ most
    pub may : MayGoOn rest

  -- or of the server
  pub record IsServerFull : Type 0 where
    pub begun : Begun
    pub rest : List ℕ
    pub due : IsDue s whole begun rest
    pub all : length s.server.taken ≡ most
    pub needs : NeedsMore (to_head begun) false rest

  -- What was taken and given where a connection ended so, and these exchanges gave the client their whole final
  -- response. `ClientEnded` and `ServerEnded` say that an input is at its end.
  abbrev pub EndsSo : ProxyEnd → Type 0
  EndsSo Closed = IsOver ServerEndsShort s whole ⊎ IsLeft
  EndsSo BadRequest = IsBadRequest
  EndsSo BadResponse = IsBadResponse
  EndsSo Full = IsClientFull ⊎ IsServerFull
  EndsSo ClientFault = IsCut ServerEndsShort s whole
  EndsSo ServerFault = IsCut ServerEndsShort s whole

  -- likewise where memory was wanting
  abbrev pub EndsAs : Result ProxyEnd OutOfMemory → Type 0
  EndsAs (Ok end) = EndsSo end
  EndsAs (Err error) = IsCut ServerEndsShort s whole

-- When a read of a link began, this held of what had been taken and given.
pub record WhenBegun (Ready : List ℕ → List ℕ → Type 0) (s : Side) (start : ReadStart) : Type 0 where
  pub taken_then : List ℕ
  pub taken_later : List ℕ
  pub given_then : List ℕ
  pub given_later : List ℕ
  pub taken_is : s.taken ≡ taken_then ++ taken_later
  pub given_is : s.given ≡ given_then ++ given_later
  pub start_is : start ≡ record { taken = length taken_then; given = length given_then }
  pub ready : Ready taken_then given_then

-- The client had been given all responses to the whole requests taken from it, none of which closes. Fewer bytes had
-- been taken than may be, and a request may follow.
pub record ClientReady (taken given : List ℕ) : Type 0 where
  pub whole : List Exchange
  pub rest : List ℕ
  pub are : All IsExchange whole
  pub open_ones : AllOpen whole
  pub requests : taken ≡ requests_text whole ++ rest
  pub responses : given ≡ answers_text whole
  pub none : BeginsWithNone rest
  pub may : MayGoOn rest
  pub room : length taken < most

-- The server had been given one request more than it had answered with a whole final response, and no whole response
-- stood in the rest. Fewer bytes had been taken than may be.
pub record ServerReady (taken given : List ℕ) : Type 0 where
  pub whole : List Exchange
  pub begun : Begun
  pub rest : List ℕ
  pub are : All IsExchange whole
  pub open_ones : AllOpen whole
  pub is : IsBegun begun
  pub requests : given ≡ requests_text whole ++ begun.request.bytes
  pub responses : taken ≡ (answers_text whole ++ responses_text begun.interim) ++ rest
  pub needs : NeedsMore (to_head begun) false rest
  pub room : length taken < most
