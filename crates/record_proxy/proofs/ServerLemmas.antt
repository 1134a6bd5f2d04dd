-- Bytes are taken of the server, or its input ends.
use Rattle.std.proofs.Common.{◌≡◌, ◌∙◌, ◌<◌, ◌≤◌, inl, inr, ℕ, ◌+◌, true, false, List, [], ◌++◌, length, take, map}
use Rattle.std.proofs.Common.{Option, Some, Ok, Err, refl, sym, ap, subst, append_assoc, arith}
use Rattle.std.specs.Prelude.{IfSome, Result}
use Rattle.std.specs.Option.{option_map}
use Rattle.std.proofs.Math.Bool.{true≢false}
use Rattle.mm_base.specs.Link.{LinkBytes, after_read}
use Rattle.mm_base.specs.declared.errors.EndError.{EndError}
use Rattle.text_base.specs.declared.out_of_memory.OutOfMemory.{OutOfMemory}
use Rattle.record_store.specs.declared.record.Record.{Record}
use Rattle.replay_server.specs.Links.{IsAtEnd}
use Rattle.replay_server.specs.Sessions.{most}
use Rattle.record_proxy.specs.Exchanges.{Exchange, recorded}
use Rattle.record_proxy.specs.Courses.{Begun, course, got, IsDue, NeedsMore, IsFaulty}
use Rattle.record_proxy.specs.Ends.{EndsShort, ServerReady}
use Rattle.record_proxy.specs.Links.{Links, links, IsStored}
use Rattle.record_proxy.specs.inside.Progress.{Taken, Stands, IsEndAt}
use Rattle.record_proxy.specs.declared.ends.ProxyEnd.{ProxyEnd}
use Rattle.record_proxy.specs.declared.ends.ProxyEnd.TheVariants.{BadResponse, ServerFault, Full}
use Rattle.record_proxy.proofs.HistoryLemmas.{side, history_read, history_ended, history_refused, at_end}
use Rattle.record_proxy.proofs.StandLemmas.{sides, ends_cut, ends_short, cut_now, stored_here}

module _ (start : Links) (client server : Option LinkBytes) (es : List Exchange) (b : Begun) (t : Taken)
    (s : Stands start (links client server) (course es (Some b)) t) where
  pub due_now : IsDue (sides s.client s.server) es b t.responses.unread
  due_now = record {
    client_rest = t.requests.unread;
    passes = record {
      runs = record {
        is = record { whole = s.are; begun = s.begun; in_turn = s.open_ones };
        requests = s.requests;
        responses = s.responses;
      };
      to_server = s.to_server;
      to_client = s.to_client;
    };
  }

  module _ (port : ℕ) (before records : List Record) (are : records ≡ before ++ map (recorded port) es) where
    pub refused_response : IsFaulty b.request.head.head_only t.server_ended t.responses.unread
        → IsStored port start (links client server) before records (Ok BadResponse)
    refused_response faulty =
        stored_here s port before records are (Ok BadResponse)
        record {
          begun = b;
          rest = t.responses.unread;
          due = due_now;
          why = inl record { ended = t.server_ended; is_ended = ends_short s; faulty = faulty };
        }

    module _ (needs : NeedsMore b.request.head.head_only t.server_ended t.responses.unread) where
      -- the input has ended before
      pub server_left : t.server_ended ≡ true → IsStored port start (links client server) before records
          (Ok BadResponse)
      server_left ended =
          let c = s.server_is.count_is in
          let few : t.server_taken < most = s.short ended in
          stored_here s port before records are (Ok BadResponse)
          record {
            begun = b;
            rest = t.responses.unread;
            due = due_now;
            why = inr record {
              ends = record { ended = s.ended ended; few = omega (arith, c, few) };
              needs = subst (λ e. NeedsMore b.request.head.head_only e t.responses.unread) ended needs;
            };
          }

      module _ (running : t.server_ended ≡ false) where
        needs_now : NeedsMore b.request.head.head_only false t.responses.unread
        needs_now = subst (λ e. NeedsMore b.request.head.head_only e t.responses.unread) running needs

        pub server_full : most ≤ t.server_taken → IsStored port start (links client server) before records (Ok Full)
        server_full reached =
            let c = s.server_is.count_is in
            let few = s.server_is.few in
            stored_here s port before records are (Ok Full)
            (inr record {
              begun = b;
              rest = t.responses.unread;
              due = due_now;
              all = omega (arith, c, few, reached);
              needs = needs_now;
            })

        module _ (room : t.server_taken < most) where
          server_ready : ServerReady s.server.taken s.server.given
          server_ready = record {
            whole = es;
            begun = b;
            rest = t.responses.unread;
            are = s.are;
            open_ones = s.open_ones;
            is = s.begun;
            requests = s.to_server;
            responses = s.responses;
            needs = needs_now;
            room = let c = s.server_is.count_is in omega (arith, c, room);
          }

          module _ (new : Option LinkBytes) where
            pub server_fails : (error : EndError) → new ≡ option_map (after_read (Err error)) server
                → (result : Result ProxyEnd OutOfMemory) → IsEndAt ServerFault error result
                → IsStored port start (links client new) before records result
            server_fails error told result at =
                let s' : Stands start (links client new) (course es (Some b)) t = record {
                  client = s.client;
                  server = s.server;
                  client_is = s.client_is;
                  server_is = history_refused s.server_is server_ready new error told;
                  are = s.are;
                  open_ones = s.open_ones;
                  begun = s.begun;
                  requests = s.requests;
                  responses = s.responses;
                  to_server = s.to_server;
                  to_client = s.to_client;
                  requests_run = s.requests_run;
                  requests_last = s.requests_last;
                  responses_run = s.responses_run;
                  responses_last = s.responses_last;
                  ended = λ h. absurd (true≢false (sym h ∙ running));
                  short = λ h. absurd (true≢false (sym h ∙ running));
                } in
                stored_here s' port before records are result
                (ends_cut (IsAtEnd client) (IsAtEnd new) (sides s.client s.server) es
                (cut_now s' (EndsShort (IsAtEnd new) s.server.taken)) ServerFault (λ x. x) error result at)

            pub server_ends : IfSome server (λ l. l.rest ≡ []) → new ≡ option_map (after_read (Ok 0)) server
                → Stands start (links client new) (course es (Some b))
                (record t { responses = record t.responses { ended = true }; server_ended = true })
            server_ends ended told = record {
              client = s.client;
              server = s.server;
              client_is = s.client_is;
              server_is = history_ended s.server_is server_ready new told;
              are = s.are;
              open_ones = s.open_ones;
              begun = s.begun;
              requests = s.requests;
              responses = s.responses;
              to_server = s.to_server;
              to_client = s.to_client;
              requests_run = s.requests_run;
              requests_last = s.requests_last;
              responses_run = s.responses_run;
              responses_last = refl;
              ended = λ h. subst IsAtEnd (sym told) (at_end server ended);
              short = λ h. room;
            }

            module _ (n : ℕ) (fits : t.server_taken + n ≤ most) (piece : List ℕ) (long : length piece ≡ n)
                (brought : IfSome server (λ l. piece ≡ take n l.rest))
                (told : new ≡ option_map (after_read (Ok n)) server) where
              pub server_brings : Stands start (links client new) (course es (Some b))
                  (record t {
                    responses = record t.responses { unread = t.responses.unread ++ piece };
                    server_taken = t.server_taken + n;
                  })
              server_brings = record {
                client = s.client;
                server = side (s.server.taken ++ piece) s.server.given;
                client_is = s.client_is;
                server_is = history_read s.server_is server_ready new n fits piece long brought told;
                are = s.are;
                open_ones = s.open_ones;
                begun = s.begun;
                requests = s.requests;
                responses = ap (λ l. l ++ piece) s.responses
                    ∙ append_assoc (got (course es (Some b))) t.responses.unread piece;
                to_server = s.to_server;
                to_client = s.to_client;
                requests_run = s.requests_run;
                requests_last = s.requests_last;
                responses_run = s.responses_run;
                responses_last = s.responses_last;
                ended = λ h. absurd (true≢false (sym h ∙ running));
                short = λ h. absurd (true≢false (sym h ∙ running));
              }
