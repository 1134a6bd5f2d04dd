-- The steps of a session, each from what its calls say.
use Rattle.std.proofs.Common.{◌≡◌, ◌∙◌, ◌<◌, ◌≤◌, inl, inr, ℕ, ◌+◌, Bool, true, false, List, [], ◌∷◌, ◌++◌, length}
use Rattle.std.proofs.Common.{take, Option, Some, None, Ok, Err, refl, sym, ap, subst, append-nil, arith}
use Rattle.std.specs.Prelude.{IfSome, IfNone}
use Rattle.std.specs.Option.{option_map}
use Rattle.std.proofs.lemmas.List.Elements.{All-nil}
use Rattle.http_frame.specs.Runs.{IsRequestOf, BeginsWithNone}
use Rattle.http_frame.specs.Frames.{Frames}
use Rattle.http_frame.specs.declared.messages.Request.{Request}
use Rattle.mm_base.specs.Link.{LinkBytes, after_read}
use Rattle.mm_base.specs.declared.errors.EndError.{EndError}
use Rattle.mm_base.specs.declared.errors.EndError.TheVariants.{OutOfMemory as NoMemory}
use Rattle.record_store.specs.declared.record.Record.{Record}
use Rattle.replay_server.specs.Answers.{IsAnswer, bad_request}
use Rattle.replay_server.specs.Sessions.{Reply, AllOpen, full_text, most, MayGoOn, IsHopeless}
use Rattle.replay_server.specs.Links.{IsServed}
use Rattle.replay_server.specs.inside.Giving.{Pours, Spills}
use Rattle.replay_server.specs.inside.Progress.{Stand, Progress, IsDue, end_of}
use Rattle.replay_server.specs.declared.ends.ConnEnd.TheVariants.{Closed, BadRequest, Full, OutOfMemory}
use Rattle.replay_server.specs.declared.session_state.SessionState.{SessionState}
use Rattle.replay_server.proofs.ReplyLemmas.{full_text-push, open_push, closes_push}
use Rattle.replay_server.proofs.StandLemmas.{stand_start, stand_due, stand_reply, stand_pour, stand_open, stand_read}
use Rattle.replay_server.proofs.StandLemmas.{stand_failed, served_cut, served_spilt, served_closed, served_bad}
use Rattle.replay_server.proofs.StandLemmas.{served_full, served_ended}

-- the same, with these bytes unread
abbrev pub waiting : SessionState → List ℕ → SessionState
waiting state unread = record state { frames = record state.frames { unread = unread } }

abbrev pub reply_of : Request → List ℕ → Bool → Reply
reply_of r bytes closes = record { request = r; answer = record { bytes = bytes; closes = closes } }

pub if_none : {T P : Type 0} (o : Option T) → P → IfNone o P
if_none None p = p
if_none (Some x) p = tt

due_push : (replies : List Reply) (r : Request) (bytes : List ℕ) (closes : Bool) (rest : List ℕ) → AllOpen replies
    → IsDue (replies ++ reply_of r bytes closes ∷ []) rest (full_text (replies ++ reply_of r bytes closes ∷ []))
due_push replies r bytes true rest x = inl (inr (closes_push replies (reply_of r bytes true) x refl), refl)
due_push replies r bytes false rest x = inl (inl (open_push replies (reply_of r bytes false) x refl), refl)

module _ {store : List Record} {site : Option ℕ} where
  pub no_memory_at_first : (told : Option LinkBytes) → IsServed store site told told OutOfMemory
  no_memory_at_first told = served_cut (stand_start told)
      (inl (inl (All-nil (λ (r : Reply). r.answer.closes ≡ false)), refl)) NoMemory

  -- nothing was taken
  pub progress_first : (told : Option LinkBytes)
      → Progress store site told told
      (record {
        frames = record { unread = []; ended = false; failed = None };
        gathered = [];
        taken = 0;
        reads = 0;
      })
  progress_first told = record {
    replies = [];
    open_ones = All-nil (λ (r : Reply). r.answer.closes ≡ false);
    stand = stand_start told;
    running = refl;
    not_ended = refl;
  }

  -- the reader of requests has taken one off
  pub still : {start now : Option LinkBytes} {state : SessionState} → Progress store site start now state
      → (new : Frames) → new.failed ≡ None → new.ended ≡ state.frames.ended
      → Progress store site start now (record state { frames = record new { unread = state.frames.unread } })
  still p new running ended = record {
    replies = p.replies;
    open_ones = p.open_ones;
    stand = p.stand;
    running = running;
    not_ended = ended ∙ p.not_ended;
  }

  pub no_memory : {start now : Option LinkBytes} {state : SessionState} → Progress store site start now state
      → IsServed store site start now OutOfMemory
  no_memory p = served_cut p.stand (inl (inl p.open_ones, refl)) NoMemory

  -- ---- an answer

  answered : (start now : Option LinkBytes) (state : SessionState) (unread : List ℕ) (r : Request) (bytes : List ℕ)
      (closes : Bool) → IsRequestOf r
      → IsAnswer store site r.head (reply_of r bytes closes).answer → unread ≡ r.bytes ++ state.frames.unread
      → (p : Progress store site start now (waiting state unread))
      → Stand store site start now (p.replies ++ reply_of r bytes closes ∷ []) state.frames.unread
      (full_text (p.replies ++ reply_of r bytes closes ∷ [])) (state.gathered ++ bytes) state.taken
  answered start now state unread r bytes closes is answer e p =
      let reply = reply_of r bytes closes in
      let due : Stand store site start now (p.replies ++ reply ∷ []) state.frames.unread (full_text p.replies ++ bytes)
      (state.gathered ++ bytes) state.taken
      = stand_reply (stand_due p.stand bytes) reply state.frames.unread is answer e in
      subst (λ text. Stand store site start now (p.replies ++ reply ∷ []) state.frames.unread text (state.gathered
      ++ bytes) state.taken) (sym (full_text-push p.replies reply)) due

  module _ (start now : Option LinkBytes) (state : SessionState) (unread : List ℕ) (r : Request) (bytes : List ℕ)
      (closes : Bool) (is : IsRequestOf r)
      (answer : IsAnswer store site r.head (reply_of r bytes closes).answer) (e : unread ≡ r.bytes
      ++ state.frames.unread)
      (p : Progress store site start now (waiting state unread)) where
    pub answer_spilt : (new : Option LinkBytes) → Spills now new (state.gathered ++ bytes) → (error : EndError)
        → IsServed store site start new (end_of error)
    answer_spilt new spill error =
        served_spilt (answered start now state unread r bytes closes is answer e p)
        (due_push p.replies r bytes closes state.frames.unread p.open_ones) new spill error

    pub answer_open : (new : Option LinkBytes) (gathered : List ℕ) → Pours now new state.gathered gathered bytes
        → closes ≡ false
        → Progress store site start new (record state { gathered = gathered })
    answer_open new gathered pours open_one = record {
      replies = p.replies ++ reply_of r bytes closes ∷ [];
      open_ones = open_push p.replies (reply_of r bytes closes) p.open_ones open_one;
      stand = stand_pour (answered start now state unread r bytes closes is answer e p) new pours.poured gathered
          pours.told pours.all;
      running = p.running;
      not_ended = p.not_ended;
    }

    pub answer_left : (mid new : Option LinkBytes) (gathered : List ℕ) → Pours now mid state.gathered gathered bytes
        → Spills mid new gathered → (error : EndError)
        → IsServed store site start new (end_of error)
    answer_left mid new gathered pours spill error =
        served_spilt (stand_pour (answered start now state unread r bytes closes is answer e p) mid pours.poured
        gathered pours.told pours.all)
        (due_push p.replies r bytes closes state.frames.unread p.open_ones) new spill error

    pub answer_closes : (mid new : Option LinkBytes) (gathered last : List ℕ)
        → Pours now mid state.gathered gathered bytes → Pours mid new gathered last [] → last ≡ []
        → closes ≡ true → IsServed store site start new Closed
    answer_closes mid new gathered last pours flushed empty closing =
        served_closed
        (stand_pour (stand_pour (answered start now state unread r bytes closes is answer e p) mid pours.poured
        gathered pours.told pours.all)
        new flushed.poured last flushed.told (sym (append-nil gathered) ∙ flushed.all))
        empty (closes_push p.replies (reply_of r bytes closes) p.open_ones closing)

  -- ---- the text that there is no request

  module _ (start now : Option LinkBytes) (replies : List Reply) (rest gathered text : List ℕ) (count : ℕ)
      (said : text ≡ bad_request)
      (x : Stand store site start now replies rest (full_text replies) gathered count) (open_ones : AllOpen replies)
      (whole : BeginsWithNone rest) (hopeless : IsHopeless rest) where
    refusing : Stand store site start now replies rest (full_text replies ++ bad_request) (gathered ++ text) count
    refusing = subst (λ l. Stand store site start now replies rest (full_text replies ++ bad_request) (gathered ++ l)
        count) (sym said) (stand_due x bad_request)

    pub refusal_spilt : (new : Option LinkBytes) → Spills now new (gathered ++ text) → (error : EndError)
        → IsServed store site start new (end_of error)
    refusal_spilt new spill error = served_spilt refusing (inr (whole, open_ones, hopeless, refl)) new spill error

    pub refusal_left : (mid new : Option LinkBytes) (later : List ℕ) → Pours now mid gathered later text
        → Spills mid new later → (error : EndError)
        → IsServed store site start new (end_of error)
    refusal_left mid new later pours spill error =
        served_spilt (stand_pour refusing mid pours.poured later pours.told pours.all)
        (inr (whole, open_ones, hopeless, refl)) new spill error

    pub refusal_given : (mid new : Option LinkBytes) (later last : List ℕ) → Pours now mid gathered later text
        → Pours mid new later last [] → last ≡ []
        → IsServed store site start new BadRequest
    refusal_given mid new later last pours flushed empty =
        served_bad
        (stand_pour (stand_pour refusing mid pours.poured later pours.told pours.all) new flushed.poured last
        flushed.told (sym (append-nil later) ∙ flushed.all))
        empty open_ones whole hopeless

  -- ---- a read

  module _ (start now : Option LinkBytes) (state : SessionState) (p : Progress store site start now state) where
    pub flush_spilt : (new : Option LinkBytes) → Spills now new state.gathered → (error : EndError)
        → IsServed store site start new (end_of error)
    flush_spilt new spill error = served_spilt p.stand (inl (inl p.open_ones, refl)) new spill error

    pub flushed_on : (new : Option LinkBytes) (last : List ℕ) (reads : ℕ) → Pours now new state.gathered last []
        → Progress store site start new (record state { gathered = last; reads = reads })
    flushed_on new last reads pours = record {
      replies = p.replies;
      open_ones = p.open_ones;
      stand = stand_pour p.stand new pours.poured last pours.told (sym (append-nil state.gathered) ∙ pours.all);
      running = p.running;
      not_ended = p.not_ended;
    }

    module _ (empty : state.gathered ≡ []) (whole : BeginsWithNone state.frames.unread)
        (may : MayGoOn state.frames.unread) where
      pub is_full : most ≤ state.taken → IsServed store site start now Full
      is_full reached = let few = p.stand.few
          in served_full p.stand empty p.open_ones whole may (omega (arith, reached, few))

      pub read_fails : state.taken < most → (new : Option LinkBytes) (error : EndError)
          → new ≡ option_map (after_read (Err error)) now
          → IsServed store site start new (end_of error)
      read_fails room new error told =
          served_cut (stand_failed p.stand (stand_open p.stand empty p.open_ones whole may) room new error told)
          (inl (inl p.open_ones, refl)) error

      pub read_ends : state.taken < most → (new : Option LinkBytes) (n : ℕ) → n ≡ 0 → IfSome now (λ l. l.rest ≡ [])
          → new ≡ option_map (after_read (Ok n)) now
          → IsServed store site start new Closed
      read_ends few new n none ended told =
          served_ended p.stand empty p.open_ones whole may few new ended
          (told ∙ ap (λ k. option_map (after_read (Ok k)) now) none)

      brought : (told : Option LinkBytes) (n : ℕ) (buf : List ℕ)
          → IfSome told (λ l. (n ≤ length l.rest) × (take n buf ≡ take n l.rest))
          → IfSome told (λ l. take n buf ≡ take n l.rest)
      brought None n buf h = tt
      brought (Some l) n buf h = h.1

      module _ (room : state.taken < most) (new : Option LinkBytes) (n : ℕ) (within : state.taken + n ≤ most)
          (buf : List ℕ) (long : length (take n buf) ≡ n)
          (front : IfSome now (λ l. (n ≤ length l.rest) × (take n buf ≡ take n l.rest)))
          (told : new ≡ option_map (after_read (Ok n)) now) where
        read_on : Stand store site start new p.replies (state.frames.unread ++ take n buf) (full_text p.replies)
            state.gathered (state.taken + n)
        read_on = stand_read p.stand (stand_open p.stand empty p.open_ones whole may) room new n within
            (take n buf) long (brought now n buf front) told

        pub read_kept : Progress store site start new
            (record (waiting state (state.frames.unread ++ take n buf)) { taken = state.taken + n })
        read_kept = record {
          replies = p.replies;
          open_ones = p.open_ones;
          stand = read_on;
          running = p.running;
          not_ended = p.not_ended;
        }

        pub read_lost : IsServed store site start new OutOfMemory
        read_lost = served_cut read_on (inl (inl p.open_ones, refl)) NoMemory
