-- Bytes are taken of the client, or its input ends.
use Rattle.std.proofs.Common.{◌≡◌, ◌∙◌, ◌<◌, ◌≤◌, inl, inr, ℕ, ◌+◌, List, [], ◌∷◌, ◌++◌, length, take, map, Option}
use Rattle.std.proofs.Common.{None, Ok, Err, refl, sym, ap, subst, append_assoc, arith}
use Rattle.std.specs.Prelude.{IfSome, Result}
use Rattle.std.specs.Option.{option_map}
use Rattle.http_frame.specs.Runs.{BeginsWithNone}
use Rattle.mm_base.specs.Link.{LinkBytes, after_read}
use Rattle.mm_base.specs.declared.errors.EndError.{EndError}
use Rattle.text_base.specs.declared.out_of_memory.OutOfMemory.{OutOfMemory}
use Rattle.record_store.specs.declared.record.Record.{Record}
use Rattle.replay_server.specs.Links.{IsAtEnd}
use Rattle.replay_server.specs.Sessions.{IsHopeless, MayGoOn, most}
use Rattle.record_proxy.specs.Exchanges.{Exchange, recorded}
use Rattle.record_proxy.specs.Courses.{Sides, course, sent, IsIdle}
use Rattle.record_proxy.specs.Ends.{EndsAs, EndsShort, ClientReady}
use Rattle.record_proxy.specs.Links.{Links, links, IsStored}
use Rattle.record_proxy.specs.inside.Progress.{History, Taken, Stands, IsEndAt}
use Rattle.record_proxy.specs.declared.ends.ProxyEnd.{ProxyEnd}
use Rattle.record_proxy.specs.declared.ends.ProxyEnd.TheVariants.{Closed, BadRequest, ClientFault, Full}
use Rattle.record_proxy.proofs.HistoryLemmas.{side, history_read, history_ended, history_refused, at_end}
use Rattle.record_proxy.proofs.TextLemmas.{sent_whole, got_whole}
use Rattle.record_proxy.proofs.StandLemmas.{sides, ends_cut, cut_now, stored_here}

-- the input ended between requests, or within one
left_so : (A B : Type 0) (s : Sides) (es : List Exchange) (rest : List ℕ) → IsIdle s es rest → A
    → length s.client.taken < most → MayGoOn rest → (end : ProxyEnd) → (rest ≡ [] → end ≡ Closed)
    → (0 < length rest → end ≡ BadRequest) → EndsAs A B s es (Ok end)
left_so A B s es [] idle ended few may end between within =
    subst (λ k. EndsAs A B s es (Ok k)) (sym (between refl))
    (inr record { ends = record { ended = ended; few = few }; idle = idle })
left_so A B s es (b ∷ bs) idle ended few may end between within =
    let some : 0 < length (b ∷ bs) = omega arith in
    subst (λ k. EndsAs A B s es (Ok k)) (sym (within some))
    record {
      rest = b ∷ bs;
      idle = idle;
      why = inr record { ends = record { ended = ended; few = few }; some = some; may = may };
    }

module _ (start : Links) (client server : Option LinkBytes) (es : List Exchange) (t : Taken)
    (s : Stands start (links client server) (course es None) t) (none : BeginsWithNone t.requests.unread) where
  pub idle_now : IsIdle (sides s.client s.server) es t.requests.unread
  idle_now = record {
    server_rest = t.responses.unread;
    passes = record {
      runs = record {
        is = record { whole = s.are; begun = tt; in_turn = inl s.open_ones };
        requests = s.requests;
        responses = s.responses;
      };
      to_server = s.to_server;
      to_client = s.to_client;
    };
    open_ones = s.open_ones;
    none = none;
  }

  module _ (port : ℕ) (before records : List Record) (are : records ≡ before ++ map (recorded port) es) where
    pub refused_request : IsHopeless t.requests.unread
        → IsStored port start (links client server) before records (Ok BadRequest)
    refused_request hopeless =
        stored_here s port before records are (Ok BadRequest)
        record { rest = t.requests.unread; idle = idle_now; why = inl hopeless }

    module _ (may : MayGoOn t.requests.unread) where
      pub client_full : most ≤ t.client_taken → IsStored port start (links client server) before records (Ok Full)
      client_full reached =
          let c = s.client_is.count_is in
          let few = s.client_is.few in
          stored_here s port before records are (Ok Full)
          (inl record {
            rest = t.requests.unread;
            idle = idle_now;
            all = omega (arith, c, few, reached);
            may = may;
          })

      module _ (room : t.client_taken < most) where
        client_ready : ClientReady s.client.taken s.client.given
        client_ready = record {
          whole = es;
          rest = t.requests.unread;
          are = s.are;
          open_ones = s.open_ones;
          requests = s.requests ∙ ap (λ l. l ++ t.requests.unread) (sent_whole es);
          responses = s.to_client ∙ got_whole es;
          none = none;
          may = may;
          room = let c = s.client_is.count_is in omega (arith, c, room);
        }

        module _ (new : Option LinkBytes) where
          -- a read that changes nothing else
          abbrev still : History ClientReady start.client new s.client t.client_taken
              → Stands start (links new server) (course es None) t
          still history = record {
            client = s.client;
            server = s.server;
            client_is = history;
            server_is = s.server_is;
            are = s.are;
            open_ones = s.open_ones;
            begun = tt;
            requests = s.requests;
            responses = s.responses;
            to_server = s.to_server;
            to_client = s.to_client;
            requests_run = s.requests_run;
            requests_last = s.requests_last;
            responses_run = s.responses_run;
            responses_last = s.responses_last;
            ended = s.ended;
            short = s.short;
          }

          pub client_fails : (error : EndError) → new ≡ option_map (after_read (Err error)) client
              → (result : Result ProxyEnd OutOfMemory) → IsEndAt ClientFault error result
              → IsStored port start (links new server) before records result
          client_fails error told result at =
              let s' = still (history_refused s.client_is client_ready new error told) in
              stored_here s' port before records are result
              (ends_cut (IsAtEnd new) (IsAtEnd server) (sides s.client s.server) es
              (cut_now s' (EndsShort (IsAtEnd server) s.server.taken)) ClientFault (λ x. x) error result at)

          pub client_leaves : IfSome client (λ l. l.rest ≡ []) → new ≡ option_map (after_read (Ok 0)) client
              → (end : ProxyEnd) → (t.requests.unread ≡ [] → end ≡ Closed)
              → (0 < length t.requests.unread → end ≡ BadRequest)
              → IsStored port start (links new server) before records (Ok end)
          client_leaves ended told end between within =
              let s' = still (history_ended s.client_is client_ready new told) in
              let c = s.client_is.count_is in
              stored_here s' port before records are (Ok end)
              (left_so (IsAtEnd new) (IsAtEnd server) (sides s.client s.server) es t.requests.unread idle_now
              (subst IsAtEnd (sym told) (at_end client ended)) (omega (arith, c, room)) may end between within)

          module _ (n : ℕ) (fits : t.client_taken + n ≤ most) (piece : List ℕ) (long : length piece ≡ n)
              (brought : IfSome client (λ l. piece ≡ take n l.rest))
              (told : new ≡ option_map (after_read (Ok n)) client)
            where
              pub client_brings : Stands start (links new server) (course es None)
                  (record t {
                    requests = record t.requests { unread = t.requests.unread ++ piece };
                    client_taken = t.client_taken + n;
                  })
              client_brings = record {
                client = side (s.client.taken ++ piece) s.client.given;
                server = s.server;
                client_is = history_read s.client_is client_ready new n fits piece long brought told;
                server_is = s.server_is;
                are = s.are;
                open_ones = s.open_ones;
                begun = tt;
                requests = ap (λ l. l ++ piece) s.requests
                    ∙ append_assoc (sent (course es None)) t.requests.unread piece;
                responses = s.responses;
                to_server = s.to_server;
                to_client = s.to_client;
                requests_run = s.requests_run;
                requests_last = s.requests_last;
                responses_run = s.responses_run;
                responses_last = s.responses_last;
                ended = s.ended;
                short = s.short;
              }
