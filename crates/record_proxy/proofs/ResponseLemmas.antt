-- A response of the server is passed on, or refused.
use Rattle.std.proofs.Common.{◌≡◌, ◌∙◌, ◌<◌, ◌≤◌, inl, inr, ℕ, true, false, List, [], ◌∷◌, ◌++◌, map, Option, Some}
use Rattle.std.proofs.Common.{None, Ok, Err, refl, sym, ap, append_assoc, append-nil}
use Rattle.std.specs.Prelude.{All, Result}
use Rattle.std.specs.Option.{option_map}
use Rattle.std.proofs.lemmas.List.Elements.{All-push}
use Rattle.http_frame.specs.Messages.{MayStop}
use Rattle.http_frame.specs.Runs.{IsResponseOf}
use Rattle.http_frame.specs.declared.messages.Request.{Request}
use Rattle.http_frame.specs.declared.messages.Response.{Response}
use Rattle.mm_base.specs.Link.{LinkBytes, giving}
use Rattle.mm_base.specs.declared.errors.EndError.{EndError}
use Rattle.text_base.specs.declared.out_of_memory.OutOfMemory.{OutOfMemory}
use Rattle.record_store.specs.declared.record.Record.{Record}
use Rattle.replay_server.specs.Links.{IsAtEnd}
use Rattle.record_proxy.specs.Exchanges.{Exchange, IsExchange, IsInterimTo, LastCloses, closes, recorded}
use Rattle.record_proxy.specs.Courses.{Side, course, sent, got, IsCut}
use Rattle.record_proxy.specs.Ends.{EndsShort}
use Rattle.record_proxy.specs.Links.{Links, links, IsStored}
use Rattle.replay_server.specs.Giving.{Breaks}
use Rattle.record_proxy.specs.inside.Progress.{Taken, Stands, IsEndAt}
use Rattle.record_proxy.specs.declared.ends.ProxyEnd.{ProxyEnd}
use Rattle.record_proxy.specs.declared.ends.ProxyEnd.TheVariants.{Closed, ClientFault}
use Rattle.record_proxy.proofs.HistoryLemmas.{side, history_give}
use Rattle.record_proxy.proofs.TextLemmas.{begun, exchange, recorded_push, given_interim, got_interim, given_final}
use Rattle.record_proxy.proofs.TextLemmas.{got_final, sent_final}
use Rattle.record_proxy.proofs.StandLemmas.{answering, sides, stored, ends_cut, adds_all, turn_push, stops_at}
use Rattle.record_proxy.proofs.StandLemmas.{ends_short}

module _ (start : Links) (client server : Option LinkBytes) (es : List Exchange) (t : Taken) (unread : List ℕ)
    (m : Request) (ms : List Response) (r : Response) (is : IsResponseOf m.head.head_only r)
    (e : unread ≡ r.bytes ++ t.responses.unread)
    (s : Stands start (links client server) (course es (Some (begun m ms))) (answering t unread)) where
  pub broken_response : (port : ℕ) (before records : List Record) → records ≡ before ++ map (recorded port) es
      → MayStop is.is.framing t.server_ended t.responses.unread
      → (new : Option LinkBytes) → Breaks client new r.bytes → (error : EndError)
      → (result : Result ProxyEnd OutOfMemory) → IsEndAt ClientFault error result
      → IsStored port start (links new server) before records result
  broken_response port before records are stops new b error result at =
      let client' : Side = side s.client.taken (s.client.given ++ b.given) in
      let cut : IsCut (EndsShort (IsAtEnd server) s.server.taken) (sides client' s.server) es = record {
        begun = Some (begun m ms);
        client_rest = t.requests.unread;
        server_rest = unread;
        runs = record {
          is = record { whole = s.are; begun = s.begun; in_turn = s.open_ones };
          requests = s.requests;
          responses = s.responses;
        };
        to_server = ([], sym s.to_server ∙ sym (append-nil s.server.given));
        part = b.given;
        to_client = ap (λ l. l ++ b.given) s.to_client;
        is_part = inr record {
          next = r;
          after = t.responses.unread;
          is = is;
          stands = e;
          stops = stops_at (EndsShort (IsAtEnd server) s.server.taken) t.server_ended (ends_short s) is.is.framing
              t.responses.unread stops;
          more = b.more;
          split = b.split;
          some = b.some;
        };
      } in
      stored port start (links new server) client' s.server t.client_taken t.server_taken
      (history_give s.client_is new b.given b.told) s.server_is es s.are (inl s.open_ones) before records
      (map (recorded port) es) are result
      (ends_cut (IsAtEnd new) (IsAtEnd server) (sides client' s.server) es cut ClientFault (λ x. x) error result at)
      (adds_all (map (recorded port) es) result)

  module _ (new : Option LinkBytes) (told : new ≡ option_map (giving r.bytes) client) where
    pub passed_interim : r.head.status < 200
        → Stands start (links new server) (course es (Some (begun m (ms ++ r ∷ [])))) t
    passed_interim low = record {
      client = side s.client.taken (s.client.given ++ r.bytes);
      server = s.server;
      client_is = history_give s.client_is new r.bytes told;
      server_is = s.server_is;
      are = s.are;
      open_ones = s.open_ones;
      begun = record {
        request = s.begun.request;
        interim = All-push (IsInterimTo m) ms r s.begun.interim (record { is = is; status = low });
      };
      requests = s.requests;
      responses = s.responses ∙ ap (λ l. got (course es (Some (begun m ms))) ++ l) e
          ∙ got_interim es m ms r t.responses.unread;
      to_server = s.to_server;
      to_client = ap (λ l. l ++ r.bytes) s.to_client ∙ given_interim es m ms r;
      requests_run = s.requests_run;
      requests_last = s.requests_last;
      responses_run = s.responses_run;
      responses_last = s.responses_last;
      ended = s.ended;
      short = s.short;
    }

    module _ (high : 200 ≤ r.head.status) where
      abbrev last : Exchange
      last = exchange m ms r

      abbrev whole : List Exchange
      whole = es ++ last ∷ []

      abbrev client_side : Side
      client_side = side s.client.taken (s.client.given ++ r.bytes)

      all_whole : All IsExchange whole
      all_whole = All-push IsExchange es last s.are record {
        request = s.begun.request;
        interim = s.begun.interim;
        final = is;
        status = high;
      }

      requests_now : s.client.taken ≡ sent (course whole None) ++ t.requests.unread
      requests_now = s.requests ∙ ap (λ l. l ++ t.requests.unread) (sent_final es m ms r)

      responses_now : s.server.taken ≡ got (course whole None) ++ t.responses.unread
      responses_now = s.responses ∙ ap (λ l. got (course es (Some (begun m ms))) ++ l) e
          ∙ got_final es m ms r t.responses.unread

      to_client_now : s.client.given ++ r.bytes ≡ got (course whole None)
      to_client_now = ap (λ l. l ++ r.bytes) s.to_client ∙ given_final es m ms r

      to_server_now : s.server.given ≡ sent (course whole None)
      to_server_now = s.to_server ∙ sent_final es m ms r

      pub passed_final : closes last ≡ false → Stands start (links new server) (course whole None) t
      passed_final open_one = record {
        client = client_side;
        server = s.server;
        client_is = history_give s.client_is new r.bytes told;
        server_is = s.server_is;
        are = all_whole;
        open_ones = All-push (λ (y : Exchange). closes y ≡ false) es last s.open_ones open_one;
        begun = tt;
        requests = requests_now;
        responses = responses_now;
        to_server = to_server_now;
        to_client = to_client_now;
        requests_run = s.requests_run;
        requests_last = s.requests_last;
        responses_run = s.responses_run;
        responses_last = s.responses_last;
        ended = s.ended;
        short = s.short;
      }

      module _ (port : ℕ) (before records : List Record) (are : records ≡ before ++ map (recorded port) es) where
        -- the record isn't added
        pub final_unadded : (error : OutOfMemory) → IsStored port start (links new server) before records (Err error)
        final_unadded error =
            let turn = turn_push es last (closes last) s.open_ones refl in
            let cut : IsCut (EndsShort (IsAtEnd server) s.server.taken) (sides client_side s.server) whole = record {
              begun = None;
              client_rest = t.requests.unread;
              server_rest = t.responses.unread;
              runs = record {
                is = record { whole = all_whole; begun = tt; in_turn = turn };
                requests = requests_now;
                responses = responses_now;
              };
              to_server = ([], sym to_server_now ∙ sym (append-nil s.server.given));
              part = [];
              to_client = to_client_now ∙ sym (append-nil (got (course whole None)));
              is_part = refl;
            } in
            stored port start (links new server) client_side s.server t.client_taken t.server_taken
            (history_give s.client_is new r.bytes told) s.server_is whole all_whole turn before records
            (map (recorded port) es) are (Err error) cut
            (inr (recorded port last, recorded_push port es last))

        pub records_push : records ++ recorded port last ∷ [] ≡ before ++ map (recorded port) whole
        records_push =
            ap (λ l. l ++ recorded port last ∷ []) are
            ∙ append_assoc before (map (recorded port) es) (recorded port last ∷ [])
            ∙ ap (λ l. before ++ l) (sym (recorded_push port es last))

        -- the exchange closes
        pub final_closes : MayStop is.is.framing t.server_ended t.responses.unread → closes last ≡ true
            → IsStored port start (links new server) before (records ++ recorded port last ∷ []) (Ok Closed)
        final_closes stops closing =
            let shut : LastCloses whole = record {
              before = es;
              last = last;
              split = refl;
              open_ones = s.open_ones;
              closing = closing;
            } in
            stored port start (links new server) client_side s.server t.client_taken t.server_taken
            (history_give s.client_is new r.bytes told) s.server_is whole all_whole (inr shut) before
            (records ++ recorded port last ∷ []) (map (recorded port) whole) records_push (Ok Closed)
            (inl record {
              client_rest = t.requests.unread;
              server_rest = t.responses.unread;
              passes = record {
                runs = record {
                  is = record { whole = all_whole; begun = tt; in_turn = inr shut };
                  requests = requests_now;
                  responses = responses_now;
                };
                to_server = to_server_now;
                to_client = to_client_now;
              };
              last = shut;
              final = is;
              stops = stops_at (EndsShort (IsAtEnd server) s.server.taken) t.server_ended (ends_short s) is.is.framing
                  t.responses.unread stops;
            })
            refl
