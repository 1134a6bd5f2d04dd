-- How a proxied connection stands, and its ends.
use Rattle.std.proofs.Common.{◌≡◌, ◌∙◌, ◌<◌, ◌≤◌, inl, inr, ℕ, Bool, true, false, List, [], ◌∷◌, ◌++◌, length}
use Rattle.std.proofs.Common.{take, map, Option, Some, None, Ok, Err, refl, sym, subst, append-nil, arith}
use Rattle.std.specs.Prelude.{◌⊎◌, All, IfSome, Result}
use Rattle.std.proofs.lemmas.List.Elements.{All-push}
use Rattle.http_frame.specs.Frames.{Frames}
use Rattle.http_frame.specs.Messages.{MayStop}
use Rattle.http_frame.specs.declared.errors.FrameError.{FrameError}
use Rattle.http_frame.specs.declared.framing.Framing.{Framing}
use Rattle.http_frame.specs.declared.framing.Framing.TheVariants.{Length, Chunked, ToEnd}
use Rattle.http_frame.specs.declared.messages.Request.{Request}
use Rattle.http_frame.specs.declared.messages.Response.{Response}
use Rattle.mm_base.specs.Link.{LinkBytes}
use Rattle.mm_base.specs.declared.errors.EndError.{EndError}
use Rattle.mm_base.specs.declared.errors.EndError.TheVariants.{Failed, OutOfMemory as NoMemory}
use Rattle.text_base.specs.declared.out_of_memory.OutOfMemory.{OutOfMemory}
use Rattle.record_store.specs.declared.record.Record.{Record}
use Rattle.replay_server.specs.Links.{IsAtEnd}
use Rattle.replay_server.specs.Sessions.{most}
use Rattle.record_proxy.specs.Exchanges.{Exchange, IsExchange, AllOpen, LastCloses, closes, recorded}
use Rattle.record_proxy.specs.Courses.{Begun, Course, Side, Sides, course, got, IsInTurn, IsPart, IsCut, StopsAt}
use Rattle.record_proxy.specs.Ends.{EndsAs, EndsShort, ClientReady, ServerReady}
use Rattle.record_proxy.specs.Links.{Links, Adds, IsStored}
use Rattle.record_proxy.specs.inside.Progress.{History, Taken, Stands, Progress, IsEndAt, begun_with, taken_of}
use Rattle.record_proxy.specs.declared.ends.ProxyEnd.{ProxyEnd}
use Rattle.record_proxy.specs.declared.proxy_state.ProxyState.{ProxyState}
use Rattle.record_proxy.proofs.HistoryLemmas.{history_used}
use Rattle.record_proxy.proofs.TextLemmas.{begun}
use Rattle.record_proxy.proofs.PairLemmas.{are_pairs}

-- the same, with these bytes of a side unread
abbrev pub asking : Taken → List ℕ → Taken
asking t unread = record t { requests = record t.requests { unread = unread } }

abbrev pub answering : Taken → List ℕ → Taken
answering t unread = record t { responses = record t.responses { unread = unread } }

abbrev pub sides : Side → Side → Sides
sides client server = record { client = client; server = server }

-- ---- ends

-- the records of whole exchanges stand behind those before
pub stored : (port : ℕ) (start now : Links) (client server : Side) (n k : ℕ)
    → History ClientReady start.client now.client client n → History ServerReady start.server now.server server k
    → (whole : List Exchange) → All IsExchange whole → AllOpen whole ⊎ LastCloses whole
    → (before records added : List Record) → records ≡ before ++ added
    → (result : Result ProxyEnd OutOfMemory)
    → EndsAs (IsAtEnd now.client) (IsAtEnd now.server) (sides client server) whole result
    → Adds (map (recorded port) whole) added result
    → IsStored port start now before records result
stored port start now client server n k client_is server_is whole are turn before records added behind result ends
    adds =
    record {
      added = added;
      behind = behind;
      proxied = record {
        sides = sides client server;
        client = history_used client_is;
        server = history_used server_is;
        whole = whole;
        ends = ends;
        pairs = are_pairs port whole are turn;
        adds = adds;
      };
    }

-- at a refusal of a link, and for lack of memory
pub ends_cut : (A B : Type 0) (s : Sides) (whole : List Exchange) → IsCut (EndsShort B s.server.taken) s whole
    → (fault : ProxyEnd) → (IsCut (EndsShort B s.server.taken) s whole → EndsAs A B s whole (Ok fault))
    → (e : EndError) (result : Result ProxyEnd OutOfMemory)
    → IsEndAt fault e result → EndsAs A B s whole result
ends_cut A B s whole x fault is_cut Failed (Ok end) is = subst (λ k. EndsAs A B s whole (Ok k)) (sym is) (is_cut x)
ends_cut A B s whole x fault is_cut Failed (Err k) is = absurd is
ends_cut A B s whole x fault is_cut NoMemory (Ok end) is = absurd is
ends_cut A B s whole x fault is_cut NoMemory (Err k) is = x

pub adds_all : (records : List Record) (result : Result ProxyEnd OutOfMemory) → Adds records records result
adds_all records (Ok end) = refl
adds_all records (Err k) = inl refl

in_turn : (es : List Exchange) (b : Option Begun) → AllOpen es → IsInTurn es b
in_turn es None x = inl x
in_turn es (Some b) x = x

pub turn_push : (es : List Exchange) (e : Exchange) (b : Bool) → AllOpen es → closes e ≡ b
    → AllOpen (es ++ e ∷ []) ⊎ LastCloses (es ++ e ∷ [])
turn_push es e true x is = inr record { before = es; last = e; split = refl; open_ones = x; closing = is }
turn_push es e false x is = inl (All-push (λ (y : Exchange). closes y ≡ false) es e x is)

pub stops_at : (Ended : Type 0) (ended : Bool) → (ended ≡ true → Ended) → (framing : Framing) (after : List ℕ)
    → MayStop framing ended after → StopsAt Ended framing after
stops_at Ended ended is (Length n) after stops = tt
stops_at Ended ended is Chunked after stops = tt
stops_at Ended ended is ToEnd after stops = (is stops.0, stops.1)

module _ {start now : Links} {x : Course} {t : Taken} (s : Stands start now x t) where
  -- the server's input has ended
  pub ends_short : t.server_ended ≡ true → EndsShort (IsAtEnd now.server) s.server.taken
  ends_short is =
      let c = s.server_is.count_is in
      let few : t.server_taken < most = s.short is in
      record { ended = s.ended is; few = omega (arith, c, few) }

  pub cut_now : (Ended : Type 0) → IsCut Ended (sides s.client s.server) x.whole
  cut_now Ended = record {
    begun = x.begun;
    client_rest = t.requests.unread;
    server_rest = t.responses.unread;
    runs = record {
      is = record { whole = s.are; begun = s.begun; in_turn = in_turn x.whole x.begun s.open_ones };
      requests = s.requests;
      responses = s.responses;
    };
    to_server = ([], sym s.to_server ∙ sym (append-nil s.server.given));
    part = [];
    to_client = s.to_client ∙ sym (append-nil (got x));
    is_part = no_part x.begun;
  }
    where
      no_part : (b : Option Begun) → IsPart Ended b t.responses.unread []
      no_part None = refl
      no_part (Some b) = inl refl

  -- the connection ends here, with these records
  pub stored_here : (port : ℕ) (before records : List Record) → records ≡ before ++ map (recorded port) x.whole
      → (result : Result ProxyEnd OutOfMemory)
      → EndsAs (IsAtEnd now.client) (IsAtEnd now.server) (sides s.client s.server) x.whole result
      → IsStored port start now before records result
  stored_here port before records are result ends =
      stored port start now s.client s.server t.client_taken t.server_taken s.client_is s.server_is x.whole s.are
      (inl s.open_ones) before records (map (recorded port) x.whole) are result ends
      (adds_all (map (recorded port) x.whole) result)

  -- for lack of memory
  pub stored_cut : (port : ℕ) (before records : List Record) → records ≡ before ++ map (recorded port) x.whole
      → (error : OutOfMemory) → IsStored port start now before records (Err error)
  stored_cut port before records are error =
      stored_here port before records are (Err error) (cut_now (EndsShort (IsAtEnd now.server) s.server.taken))

-- ---- what is due

module _ {port : ℕ} {start now : Links} {before records : List Record} {state : ProxyState}
    (p : Progress port start now before records state) where
  pub idle_stands : state.due ≡ None → Stands start now (course p.whole None) (taken_of state)
  idle_stands e =
      subst (λ d. Stands start now (course p.whole (begun_with d p.interim)) (taken_of state)) e p.stands

  pub due_stands : (m : Request) → state.due ≡ Some m
      → Stands start now (course p.whole (Some (begun m p.interim))) (taken_of state)
  due_stands m e =
      subst (λ d. Stands start now (course p.whole (begun_with d p.interim)) (taken_of state)) e p.stands

module _ {port : ℕ} {start now : Links} {before records : List Record} (state : ProxyState) (whole : List Exchange)
    (are : records ≡ before ++ map (recorded port) whole) where
  pub progress_idle : state.due ≡ None → Stands start now (course whole None) (taken_of state)
      → Progress port start now before records state
  progress_idle e x = record {
    whole = whole;
    interim = [];
    stands = subst (λ d. Stands start now (course whole (begun_with d [])) (taken_of state)) (sym e) x;
    records_are = are;
  }

  pub progress_due : (m : Request) (ms : List Response) → state.due ≡ Some m
      → Stands start now (course whole (Some (begun m ms))) (taken_of state)
      → Progress port start now before records state
  progress_due m ms e x = record {
    whole = whole;
    interim = ms;
    stands = subst (λ d. Stands start now (course whole (begun_with d ms)) (taken_of state)) (sym e) x;
    records_are = are;
  }

-- the reader of requests has taken one off, or is as it was
pub still_progress : {port : ℕ} {start now : Links} {before records : List Record} (state : ProxyState)
    → Progress port start now before records state → (new : Frames) → new.failed ≡ None
    → new.ended ≡ state.requests.ended
    → Progress port start now before records
    (record state { requests = record new { unread = state.requests.unread } })
still_progress {port} {start} {now} state p new running last = record {
  whole = p.whole;
  interim = p.interim;
  stands = with_requests p.stands new.failed new.ended running (last ∙ p.stands.requests_last);
  records_are = p.records_are;
}
  where
    with_requests : {x : Course} → Stands start now x (taken_of state) → (failed : Option FrameError) (ended : Bool)
        → failed ≡ None → ended ≡ false
        → Stands start now x
        (record (taken_of state) {
          requests = record { unread = state.requests.unread; ended = ended; failed = failed };
        })
    with_requests s failed ended running last = record {
      client = s.client;
      server = s.server;
      client_is = s.client_is;
      server_is = s.server_is;
      are = s.are;
      open_ones = s.open_ones;
      begun = s.begun;
      requests = s.requests;
      responses = s.responses;
      to_server = s.to_server;
      to_client = s.to_client;
      requests_run = running;
      requests_last = last;
      responses_run = s.responses_run;
      responses_last = s.responses_last;
      ended = s.ended;
      short = s.short;
    }

pub still_answering : {port : ℕ} {start now : Links} {before records : List Record} (state : ProxyState)
    → Progress port start now before records state → (new : Frames) → new.failed ≡ None
    → new.ended ≡ state.responses.ended
    → Progress port start now before records
    (record state { responses = record new { unread = state.responses.unread } })
still_answering {port} {start} {now} state p new running last = record {
  whole = p.whole;
  interim = p.interim;
  stands = with_responses p.stands new.failed new.ended running (last ∙ p.stands.responses_last);
  records_are = p.records_are;
}
  where
    with_responses : {x : Course} → Stands start now x (taken_of state) → (failed : Option FrameError) (ended : Bool)
        → failed ≡ None → ended ≡ state.server_ended
        → Stands start now x
        (record (taken_of state) {
          responses = record { unread = state.responses.unread; ended = ended; failed = failed };
        })
    with_responses s failed ended running last = record {
      client = s.client;
      server = s.server;
      client_is = s.client_is;
      server_is = s.server_is;
      are = s.are;
      open_ones = s.open_ones;
      begun = s.begun;
      requests = s.requests;
      responses = s.responses;
      to_server = s.to_server;
      to_client = s.to_client;
      requests_run = s.requests_run;
      requests_last = s.requests_last;
      responses_run = running;
      responses_last = last;
      ended = s.ended;
      short = s.short;
    }

pub brought : (told : Option LinkBytes) (n : ℕ) (buf : List ℕ)
    → IfSome told (λ l. (n ≤ length l.rest) × (take n buf ≡ take n l.rest))
    → IfSome told (λ l. take n buf ≡ take n l.rest)
brought None n buf h = tt
brought (Some l) n buf h = h.1
