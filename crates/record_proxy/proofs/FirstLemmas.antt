-- A proxied connection begins.
use Rattle.std.proofs.Common.{◌≡◌, ℕ, false, List, [], None, Err, refl, sym, append-nil}
use Rattle.std.proofs.Math.Bool.{true≢false}
use Rattle.std.proofs.lemmas.List.Elements.{All-nil}
use Rattle.text_base.specs.declared.out_of_memory.OutOfMemory.{OutOfMemory}
use Rattle.record_store.specs.declared.record.Record.{Record}
use Rattle.record_proxy.specs.Exchanges.{Exchange, IsExchange, closes}
use Rattle.record_proxy.specs.Courses.{course}
use Rattle.record_proxy.specs.Links.{Links, IsStored}
use Rattle.record_proxy.specs.inside.Progress.{Stands, Progress, taken_of}
use Rattle.record_proxy.specs.declared.proxy_state.ProxyState.{ProxyState}
use Rattle.record_proxy.proofs.HistoryLemmas.{side, history_start}
use Rattle.record_proxy.proofs.StandLemmas.{stored_cut, progress_idle}

abbrev pub first_state : ProxyState
first_state = record {
  requests = record { unread = []; ended = false; failed = None };
  responses = record { unread = []; ended = false; failed = None };
  due = None;
  client_taken = 0;
  server_taken = 0;
  server_ended = false;
}

pub stands_first : (told : Links) → Stands told told (course [] None) (taken_of first_state)
stands_first told = record {
  client = side [] [];
  server = side [] [];
  client_is = history_start told.client;
  server_is = history_start told.server;
  are = All-nil IsExchange;
  open_ones = All-nil (λ (e : Exchange). closes e ≡ false);
  begun = tt;
  requests = refl;
  responses = refl;
  to_server = refl;
  to_client = refl;
  requests_run = refl;
  requests_last = refl;
  responses_run = refl;
  responses_last = refl;
  ended = λ e. absurd (true≢false (sym e));
  short = λ e. absurd (true≢false (sym e));
}

pub progress_first : (port : ℕ) (told : Links) (records : List Record)
    → Progress port told told records records first_state
progress_first port told records =
    progress_idle first_state [] (sym (append-nil records)) refl (stands_first told)

-- no memory is found for the first read
pub no_memory_at_first : (port : ℕ) (told : Links) (records : List Record) (error : OutOfMemory)
    → IsStored port told told records records (Err error)
no_memory_at_first port told records error =
    stored_cut (stands_first told) port records records (sym (append-nil records)) error
