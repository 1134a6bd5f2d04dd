-- A request of the client is passed on, or refused.
use Rattle.std.proofs.Common.{◌≡◌, ◌∙◌, inl, ℕ, List, [], ◌++◌, map, Option, Some, None, refl, sym, ap}
use Rattle.std.proofs.Common.{append_assoc, append-nil}
use Rattle.std.specs.Prelude.{Result}
use Rattle.std.specs.Option.{option_map}
use Rattle.std.proofs.lemmas.List.Elements.{All-nil}
use Rattle.http_frame.specs.Runs.{IsRequestOf}
use Rattle.http_frame.specs.declared.messages.Request.{Request}
use Rattle.mm_base.specs.Link.{LinkBytes, giving}
use Rattle.mm_base.specs.declared.errors.EndError.{EndError}
use Rattle.text_base.specs.declared.out_of_memory.OutOfMemory.{OutOfMemory}
use Rattle.record_store.specs.declared.record.Record.{Record}
use Rattle.replay_server.specs.Links.{IsAtEnd}
use Rattle.record_proxy.specs.Exchanges.{Exchange, IsInterimTo, recorded}
use Rattle.record_proxy.specs.Courses.{IsBegun, course, sent, got, IsCut}
use Rattle.record_proxy.specs.Ends.{EndsShort}
use Rattle.record_proxy.specs.Links.{Links, links, IsStored}
use Rattle.replay_server.specs.Giving.{Breaks}
use Rattle.record_proxy.specs.inside.Progress.{Taken, Stands, IsEndAt}
use Rattle.record_proxy.specs.declared.ends.ProxyEnd.{ProxyEnd}
use Rattle.record_proxy.specs.declared.ends.ProxyEnd.TheVariants.{ServerFault}
use Rattle.record_proxy.proofs.HistoryLemmas.{side, history_give, stays_at_end}
use Rattle.record_proxy.proofs.TextLemmas.{begun, sent_begun, given_begun}
use Rattle.record_proxy.proofs.StandLemmas.{asking, sides, stored, ends_cut, adds_all}

module _ (start : Links) (client server : Option LinkBytes) (es : List Exchange) (t : Taken) (unread : List ℕ)
    (m : Request) (is : IsRequestOf m) (e : unread ≡ m.bytes ++ t.requests.unread)
    (s : Stands start (links client server) (course es None) (asking t unread)) where
  is_begun : IsBegun (begun m [])
  is_begun = record { request = is; interim = All-nil (IsInterimTo m) }

  asked : s.client.taken ≡ sent (course es (Some (begun m []))) ++ t.requests.unread
  asked = s.requests ∙ ap (λ l. sent (course es None) ++ l) e ∙ sent_begun es m t.requests.unread

  pub passed_request : (new : Option LinkBytes) → new ≡ option_map (giving m.bytes) server
      → Stands start (links client new) (course es (Some (begun m []))) t
  passed_request new told = record {
    client = s.client;
    server = side s.server.taken (s.server.given ++ m.bytes);
    client_is = s.client_is;
    server_is = history_give s.server_is new m.bytes told;
    are = s.are;
    open_ones = s.open_ones;
    begun = is_begun;
    requests = asked;
    responses = s.responses;
    to_server = ap (λ l. l ++ m.bytes) s.to_server ∙ given_begun es m;
    to_client = s.to_client;
    requests_run = s.requests_run;
    requests_last = s.requests_last;
    responses_run = s.responses_run;
    responses_last = s.responses_last;
    ended = λ h. stays_at_end server new m.bytes told (s.ended h);
    short = s.short;
  }

  cut_request : (Ended : Type 0) (given more : List ℕ) → m.bytes ≡ given ++ more
      → IsCut Ended (sides s.client (side s.server.taken (s.server.given ++ given))) es
  cut_request Ended given more split = record {
    begun = Some (begun m []);
    client_rest = t.requests.unread;
    server_rest = t.responses.unread;
    runs = record {
      is = record { whole = s.are; begun = is_begun; in_turn = s.open_ones };
      requests = asked;
      responses = s.responses;
    };
    to_server = (
      more,
      sym (given_begun es m) ∙ ap (λ l. l ++ m.bytes) (sym s.to_server) ∙ ap (λ l. s.server.given ++ l) split
          ∙ sym (append_assoc s.server.given given more),
    );
    part = [];
    to_client = s.to_client ∙ sym (append-nil (got (course es (Some (begun m [])))));
    is_part = inl refl;
  }

  pub broken_request : (port : ℕ) (before records : List Record) → records ≡ before ++ map (recorded port) es
      → (new : Option LinkBytes) → Breaks server new m.bytes → (error : EndError)
      → (result : Result ProxyEnd OutOfMemory) → IsEndAt ServerFault error result
      → IsStored port start (links client new) before records result
  broken_request port before records are new b error result at =
      let s' = sides s.client (side s.server.taken (s.server.given ++ b.given)) in
      stored port start (links client new) s.client (side s.server.taken (s.server.given ++ b.given)) t.client_taken
      t.server_taken s.client_is (history_give s.server_is new b.given b.told) es s.are (inl s.open_ones) before records
      (map (recorded port) es) are result
      (ends_cut (IsAtEnd client) (IsAtEnd new) s' es
      (cut_request (EndsShort (IsAtEnd new) s.server.taken) b.given b.more b.split) ServerFault (λ x. x) error result
      at)
      (adds_all (map (recorded port) es) result)
