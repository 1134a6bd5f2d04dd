-- Requests with their answers, one more, and more bytes after them.
use Rattle.std.proofs.Common.{◌≡◌, ◌∙◌, ◌<◌, arith, inl, inr, ℕ, true, false, List, [], ◌∷◌, ◌++◌, Option, refl, sym}
use Rattle.std.proofs.Common.{ap, subst, append_assoc, append-nil}
use Rattle.std.proofs.lemmas.List.{map-append}
use Rattle.std.proofs.lemmas.Grind.{flat_map-append}
use Rattle.std.proofs.lemmas.List.Elements.{All-push, All-head, All-tail}
use Rattle.httparse.specs.Grammar.{print_request, IsRequestHead, EndsInTarget}
use Rattle.http_frame.specs.Forms.{request_form}
use Rattle.http_frame.specs.Window.{NeverHas}
use Rattle.http_frame.specs.Frames.{FaultCause, MoreCause}
use Rattle.http_frame.specs.Runs.{AreRequests, IsRequestOf}
use Rattle.http_frame.specs.declared.messages.Request.{Request}
use Rattle.http_frame.specs.declared.errors.FrameError.{FrameError}
use Rattle.http_frame.specs.declared.errors.FrameError.TheVariants.{BadHead}
use Rattle.record_store.specs.declared.record.Record.{Record}
use Rattle.replay_server.specs.Answers.{IsAnswer}
use Rattle.replay_server.specs.Sessions.{Reply, IsReplies, AllOpen, LastCloses, full_text}

-- ---- requests

requests_more : (bytes : List ℕ) (ms : List Request) (rest more : List ℕ) → AreRequests bytes ms rest
    → AreRequests (bytes ++ more) ms (rest ++ more)
requests_more bytes [] rest more x = ap (λ l. l ++ more) x
requests_more bytes (m ∷ ms) rest more x =
    (x.0, x.1 ++ more, ap (λ l. l ++ more) x.2 ∙ append_assoc m.bytes x.1 more, requests_more x.1 ms rest more x.3)

requests_push : (bytes : List ℕ) (ms : List Request) (rest : List ℕ) (m : Request) (after : List ℕ)
    → AreRequests bytes ms rest → IsRequestOf m
    → rest ≡ m.bytes ++ after → AreRequests bytes (ms ++ m ∷ []) after
requests_push bytes [] rest m after x is e = (is, after, x ∙ e, refl)
requests_push bytes (n ∷ ms) rest m after x is e = (x.0, x.1, x.2, requests_push x.1 ms rest m after x.3 is e)

-- ---- replies

pub replies_none : (store : List Record) (site : Option ℕ) → IsReplies store site [] [] []
replies_none store site = record { requests = refl; answers = λ k d h. absurd (nothing k h) }
  where
    nothing : (k : ℕ) → k < 0 → ⊥
    nothing k h = omega (arith, h)

pub replies_more : {store : List Record} {site : Option ℕ} (bytes : List ℕ) (replies : List Reply) (rest more : List ℕ)
    → IsReplies store site bytes replies rest → IsReplies store site (bytes ++ more) replies (rest ++ more)
replies_more bytes replies rest more x = record {
  requests = requests_more bytes _ rest more x.requests;
  answers = x.answers;
}

pub replies_push : {store : List Record} {site : Option ℕ} (bytes : List ℕ) (replies : List Reply) (rest : List ℕ)
    (r : Reply) (after : List ℕ)
    → IsReplies store site bytes replies rest → IsRequestOf r.request → IsAnswer store site r.request.head r.answer
    → rest ≡ r.request.bytes ++ after
    → IsReplies store site bytes (replies ++ r ∷ []) after
replies_push {store} {site} bytes replies rest r after x is answered e = record {
  requests = subst (λ ms. AreRequests bytes ms after) (sym (map-append (λ (s : Reply). s.request) replies (r ∷ [])))
      (requests_push bytes _ rest r.request after x.requests is e);
  answers = All-push (λ (s : Reply). IsAnswer store site s.request.head s.answer) replies r x.answers answered;
}

pub full_text-push : (replies : List Reply) (r : Reply) → full_text (replies ++ r ∷ []) ≡ full_text replies
    ++ r.answer.bytes
full_text-push replies r =
    flat_map-append (λ (s : Reply). s.answer.bytes) replies (r ∷ [])
    ∙ ap (λ l. full_text replies ++ l) (append-nil r.answer.bytes)

pub open_push : (replies : List Reply) (r : Reply) → AllOpen replies → r.answer.closes ≡ false
    → AllOpen (replies ++ r ∷ [])
open_push replies r x e = All-push (λ (s : Reply). s.answer.closes ≡ false) replies r x e

pub closes_push : (replies : List Reply) (r : Reply) → AllOpen replies → r.answer.closes ≡ true
    → LastCloses (replies ++ r ∷ [])
closes_push [] r x e = e
closes_push (s ∷ []) r x e = (All-head (λ (s : Reply). s.answer.closes ≡ false) s [] x, e)
closes_push (s ∷ t ∷ replies) r x e =
    let is_open : Reply → Type 0 = λ (s : Reply). s.answer.closes ≡ false in
    (All-head is_open s (t ∷ replies) x, closes_push (t ∷ replies) r (All-tail is_open s (t ∷ replies) x) e)

-- ---- a rest that may go on

-- a rest that answers More and begins no head ends inside a target
in_target : (rest : List ℕ) → MoreCause request_form false rest → NeverHas print_request IsRequestHead rest
    → EndsInTarget rest
in_target rest x never = elim x [
  | inl a ↦ elim a.2 [
    | inl may ↦ absurd (never may.0 may.1 [] may.2)
    | inr target ↦ target
  ]
  | inr b ↦
      let r = b.1.read in
      absurd (never [] r.tree _ (
        r.begins.reads.0,
        ap (λ ys. ys ++ []) r.begins.reads.1
            ∙ append_assoc (print_request r.tree) _ [],
      ))
]

pub bad_head_in_target : (rest : List ℕ) (e : FrameError) → MoreCause request_form false rest → e ≡ BadHead
    → FaultCause request_form false rest e → EndsInTarget rest
bad_head_in_target rest e more is cause = in_target rest more (subst (FaultCause request_form false rest) is cause).1
