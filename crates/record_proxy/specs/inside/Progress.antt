-- How far a proxied connection has come.
use Rattle.std.specs.Prelude.{◌≡◌, ◌≤◌, ◌<◌, ℕ, ◌+◌, ◌-◌, ◌*◌, ◌++◌, Bool, true, false, List, length, map, All, Option}
use Rattle.std.specs.Prelude.{Some}
use Rattle.std.specs.Prelude.{None, IfSome, Result, Ok, Err, if◌then◌else◌}
use Rattle.http_frame.specs.Frames.{Frames}
use Rattle.http_frame.specs.declared.messages.Request.{Request}
use Rattle.http_frame.specs.declared.messages.Response.{Response}
use Rattle.mm_base.specs.Link.{LinkBytes}
use Rattle.mm_base.specs.declared.errors.EndError.{EndError}
use Rattle.mm_base.specs.declared.errors.EndError.TheVariants as refusals
use Rattle.text_base.specs.declared.out_of_memory.OutOfMemory.{OutOfMemory}
use Rattle.mm_base.specs.declared.read_start.ReadStart.{ReadStart}
use Rattle.record_store.specs.declared.record.Record.{Record}
use Rattle.replay_server.specs.Links.{Passed, IfBothTold, IsAtEnd}
use Rattle.replay_server.specs.Sessions.{most}
use Rattle.record_proxy.specs.Exchanges.{Exchange, IsExchange, AllOpen, recorded}
use Rattle.record_proxy.specs.Courses.{Begun, IsBegun, Course, Side, course, sent, got}
use Rattle.record_proxy.specs.Ends.{WhenBegun, ClientReady, ServerReady}
use Rattle.record_proxy.specs.Links.{Links, IsStored}
use Rattle.record_proxy.specs.declared.ends.ProxyEnd.{ProxyEnd}
use Rattle.record_proxy.specs.declared.proxy_state.ProxyState.{ProxyState}

-- what a link has done so far
pub record History (Ready : List ℕ → List ℕ → Type 0) (start now : Option LinkBytes) (s : Side) (count : ℕ) : Type 0
  where
    pub starts : List ReadStart
    pub passed : IfBothTold (Passed s.taken s.given starts) start now
    pub prompt : All (WhenBegun Ready s) starts
    pub count_is : length s.taken ≡ count
    pub few : count ≤ most

-- the exchange of a request, with the interim responses to it so far
abbrev pub begun_with : Option Request → List Response → Option Begun
begun_with None interim = None
begun_with (Some request) interim = Some (record { request = request; interim = interim })

-- what was taken of the two sides and isn't passed on, how many bytes were, and whether the server's input has ended
pub record Taken : Type 0 where
  pub requests : Frames
  pub responses : Frames
  pub client_taken : ℕ
  pub server_taken : ℕ
  pub server_ended : Bool

abbrev pub taken_of : ProxyState → Taken
taken_of state = record {
  requests = state.requests;
  responses = state.responses;
  client_taken = state.client_taken;
  server_taken = state.server_taken;
  server_ended = state.server_ended;
}

-- All that is due to these exchanges was given, and what was taken beyond them is unread.
pub record Stands (start now : Links) (x : Course) (t : Taken) : Type 0 where
  pub client : Side
  pub server : Side
  pub client_is : History ClientReady start.client now.client client t.client_taken
  pub server_is : History ServerReady start.server now.server server t.server_taken
  pub are : All IsExchange x.whole
  pub open_ones : AllOpen x.whole
  pub begun : IfSome x.begun IsBegun
  pub requests : client.taken ≡ sent x ++ t.requests.unread
  pub responses : server.taken ≡ got x ++ t.responses.unread
  pub to_server : server.given ≡ sent x
  pub to_client : client.given ≡ got x
  pub requests_run : t.requests.failed ≡ None
  pub requests_last : t.requests.ended ≡ false
  pub responses_run : t.responses.failed ≡ None
  pub responses_last : t.responses.ended ≡ t.server_ended
  pub ended : t.server_ended ≡ true → IsAtEnd now.server
  pub short : t.server_ended ≡ true → t.server_taken < most

-- A connection that goes on, and its records so far.
pub record Progress (port : ℕ) (start now : Links) (before records : List Record) (state : ProxyState) : Type 0 where
  pub whole : List Exchange
  pub interim : List Response
  pub stands : Stands start now (course whole (begun_with state.due interim)) (taken_of state)
  pub records_are : records ≡ before ++ map (recorded port) whole

-- After a step the connection goes on, or it has ended so.
abbrev pub GoesOn : ℕ → Links → Links → List Record → List Record → ProxyState
    → Option (Result ProxyEnd OutOfMemory) → Type 0
GoesOn port start now before records state None = Progress port start now before records state
GoesOn port start now before records state (Some result) = IsStored port start now before records result

-- How much a connection has left to do at most: each byte is still to be taken, and then to be passed on, and the
-- server's input ends once. Each step lowers it.
abbrev pub to_do : ProxyState → ℕ
to_do state =
    2 * (most - state.client_taken) + length state.requests.unread
    + (2 * (most - state.server_taken) + length state.responses.unread)
    + (if state.server_ended then 0 else 1)

-- A connection ends so at a refusal of a link: by that fault of it, or for lack of memory.
abbrev pub IsEndAt : ProxyEnd → EndError → Result ProxyEnd OutOfMemory → Type 0
IsEndAt fault refusals.Failed (Ok end) = end ≡ fault
IsEndAt fault refusals.Failed (Err error) = ⊥
IsEndAt fault refusals.OutOfMemory (Ok end) = ⊥
IsEndAt fault refusals.OutOfMemory (Err error) = Unit {0}
