-- What the readers of messages answer, for a proxied connection.
use Rattle.std.proofs.Common.{◌≡◌, ◌∙◌, ◌<◌, ◌≤◌, ◌+◌, arith, length, length-append, inl, inr, ℕ, Bool, false, List}
use Rattle.std.proofs.Common.{◌++◌}
use Rattle.std.proofs.Common.{None, Ok, Err, sym, ap, subst}
use Rattle.std.specs.Prelude.{◌==◌, Result, count_by, is_some}
use Rattle.std.proofs.Math.Bool.{true≢false}
use Rattle.std.proofs.lemmas.List.{append_cancel_left}
use Rattle.std.proofs.lemmas.List.Sums.{count_by-le-length}
use Rattle.httparse.specs.Grammar.{RequestHead as Head, ResponseHead as Answer, print_request, print_response}
use Rattle.http_frame.specs.Forms.{Form, request_form, response_form}
use Rattle.http_frame.specs.Messages.{IsRequest, IsResponse, MayStop}
use Rattle.http_frame.specs.Frames.{Frames, FaultCause, MoreCause, TakesMessage, StaysOpen, Fails, NextSays, GivesFault}
use Rattle.http_frame.specs.Frames.{GivesBytes}
use Rattle.http_frame.specs.Runs.{IsRequestOf, IsResponseOf, BeginsWithNone}
use Rattle.http_frame.proofs.WindowLemmas.{request_lines, response_lines}
use Rattle.http_frame.specs.declared.messages.Request.{Request}
use Rattle.http_frame.specs.declared.messages.Response.{Response}
use Rattle.http_frame.specs.declared.errors.Step.{Step}
use Rattle.http_frame.specs.declared.errors.Step.TheVariants as steps
use Rattle.http_frame.specs.declared.errors.FrameFault.{FrameFault}
use Rattle.http_frame.specs.declared.errors.FrameFault.TheVariants as faults
use Rattle.http_frame.specs.declared.errors.FrameError.{FrameError}
use Rattle.http_frame.specs.declared.errors.FrameError.TheVariants.{BadHead}
use Rattle.replay_server.specs.Sessions.{MayGoOn, IsHopeless}
use Rattle.replay_server.proofs.FrameSteps.{may_go_on, is_hopeless as hopeless}
use Rattle.record_proxy.specs.Courses.{NeedsMore, IsFaulty}

-- ---- any message

module _ {Tree Said Message : Type 0} (form : Form Tree Said Message) (old new : Frames)
    (result : Result (Step Message) FrameFault) (says : NextSays form old result new) where
  pub takes : (m : Message) → result ≡ Ok (steps.Message m) → TakesMessage form old m new
  takes m is = subst (λ r. NextSays form old r new) is says

  pub waits : result ≡ Ok steps.More → StaysOpen old new × MoreCause form old.ended old.unread
  waits is = subst (λ r. NextSays form old r new) is says

  pub fails : (e : FrameError) → result ≡ Err (faults.Frame e) → Fails form old e new
  fails e is = subst (λ r. NextSays form old r new) is says

  pub lacks_memory : result ≡ Err faults.OutOfMemory → StaysOpen old new
  lacks_memory is = subst (λ r. NextSays form old r new) is says

-- a text with line feeds, and what follows it
some_feeds : (text bytes body : List ℕ) (lines : ℕ) → lines + 2 ≤ count_by (λ b. b == 10) text → bytes ≡ text ++ body
    → 0 < length bytes
some_feeds text bytes body lines feeds split =
    omega (arith, feeds, count_by-le-length (λ b. b == 10) text, ap length split, length-append text body)

-- ---- requests

pub is_request : (old new : Frames) (m : Request) → TakesMessage request_form old m new → IsRequestOf m
is_request old new m x = record { tree = x.begins.tree; is = x.begins.is; says = x.begins.says }

pub request_shortens : (old new : Frames) (m : Request) → TakesMessage request_form old m new
    → length new.unread < length old.unread
request_shortens old new m x =
    let split : old.unread ≡ m.bytes ++ new.unread = x.unread in
    let some : 0 < length m.bytes = some_feeds (print_request x.begins.tree) m.bytes x.begins.is.body _
    (request_lines x.begins.tree) x.begins.is.split in
    omega (arith, some, ap length split, length-append m.bytes new.unread)

module _ (old new : Frames) (result : Result (Step Request) FrameFault) (running : old.failed ≡ None)
    (last : old.ended ≡ false)
    (first : (bytes after : List ℕ) (h : Head) → IsRequest bytes h → old.unread ≡ bytes ++ after
    → old.failed ≡ None → GivesBytes request_form bytes result)
    (faulty : (e : FrameError) → FaultCause request_form old.ended old.unread e
    → old.failed ≡ None → (e ≡ BadHead → MoreCause request_form old.ended old.unread → ⊥)
    → GivesFault e result) where
  pub none_waiting : result ≡ Ok steps.More → BeginsWithNone old.unread
  none_waiting is = λ bytes after h r e. subst (GivesBytes request_form bytes) is (first bytes after h r e running)

  pub none_refused : (e : FrameError) → result ≡ Err (faults.Frame e) → BeginsWithNone old.unread
  none_refused error is = λ bytes after h r e. subst (GivesBytes request_form bytes) is
      (first bytes after h r e running)

  pub may_follow : MoreCause request_form old.ended old.unread → result ≡ Ok steps.More → MayGoOn old.unread
  may_follow more is =
      may_go_on old.unread (subst (λ ended. MoreCause request_form ended old.unread) last more)
      (λ e cause differ. subst (GivesFault e) is
      (faulty e (subst (λ ended. FaultCause request_form ended old.unread e) (sym last) cause) running
      (λ same more. differ same)))

pub is_hopeless : (old new : Frames) (error : FrameError) → Fails request_form old error new → old.failed ≡ None
    → old.ended ≡ false → IsHopeless old.unread
is_hopeless = hopeless

-- ---- responses

abbrev pub is_response : (to_head : Bool) (old new : Frames) (m : Response)
    → TakesMessage (response_form to_head) old m new → IsResponseOf to_head m
is_response to_head old new m x = record { tree = x.begins.tree; is = x.begins.is; says = x.begins.says }

pub response_shortens : (to_head : Bool) (old new : Frames) (m : Response)
    → TakesMessage (response_form to_head) old m new → length new.unread < length old.unread
response_shortens to_head old new m x =
    let split : old.unread ≡ m.bytes ++ new.unread = x.unread in
    let some : 0 < length m.bytes = some_feeds (print_response x.begins.tree) m.bytes x.begins.is.body _
    (response_lines x.begins.tree) x.begins.is.split in
    omega (arith, some, ap length split, length-append m.bytes new.unread)

-- it stops where it may, before what is left
pub stops_there : (to_head : Bool) (old new : Frames) (m : Response)
    (x : TakesMessage (response_form to_head) old m new)
    (ended : Bool) → old.ended ≡ ended → MayStop x.begins.is.framing ended new.unread
stops_there to_head old new m x ended tied =
    let same : x.begins.after ≡ new.unread = append_cancel_left m.bytes x.begins.after new.unread
    (sym x.begins.split ∙ x.unread) in
    subst (λ l. MayStop x.begins.is.framing ended l) same
    (subst (λ e. MayStop x.begins.is.framing e x.begins.after) tied x.begins.stops)

module _ (to_head : Bool) (old : Frames) (result : Result (Step Response) FrameFault) (running : old.failed ≡ None)
    (first : (bytes after : List ℕ) (h : Answer) (r : IsResponse to_head bytes h)
    → old.unread ≡ bytes ++ after → MayStop r.framing old.ended after
    → old.failed ≡ None → GivesBytes (response_form to_head) bytes result) where
  pub needs_more : ((e : FrameError) → FaultCause (response_form to_head) old.ended old.unread e
      → old.failed ≡ None → GivesFault e result) → result ≡ Ok steps.More
      → NeedsMore to_head old.ended old.unread
  needs_more faulty is = record {
    lacks = λ bytes after h r e stops. subst (GivesBytes (response_form to_head) bytes) is
        (first bytes after h r e stops running);
    may = λ e cause. subst (GivesFault e) is (faulty e cause running);
  }

  pub refuses : (new : Frames) (error : FrameError) → result ≡ Err (faults.Frame error)
      → Fails (response_form to_head) old error new → IsFaulty to_head old.ended old.unread
  refuses new error is x = record {
    lacks = λ bytes after h r e stops. subst (GivesBytes (response_form to_head) bytes) is
        (first bytes after h r e stops running);
    error = error;
    cause = elim x.cause [
      | inl was ↦ absurd (true≢false (ap is_some (sym was ∙ running)))
      | inr cause ↦ cause.1
    ];
  }
