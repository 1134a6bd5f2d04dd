-- What a reader of requests returns for a text that is all there.
use Rattle.std.proofs.Common.{◌≡◌, ◌≢◌, ◌∙◌, ◌⊎◌, inl, inr, ℕ, false, List, [], ◌++◌, Option, Some, None, Result, Ok}
use Rattle.std.proofs.Common.{Err}
use Rattle.std.proofs.Common.{◌∷◌, true, length, refl, sym, ap, subst, append-nil, arith}
use Rattle.std.specs.Prelude.{◌==◌}
use Rattle.std.proofs.lemmas.Bool.Decides.{Decides-eqb}
use Rattle.httparse.specs.Grammar.{RequestHead as Head}
use Rattle.http_frame.specs.Forms.{request_form}
use Rattle.http_frame.specs.Frames.{Frames, FaultCause, MoreCause, NextSays}
use Rattle.http_frame.specs.HeadsAlone.{GivesHead, NextHeadSays, head_alone}
use Rattle.http_frame.specs.Messages.{IsRequest}
use Rattle.http_frame.specs.Runs.{IsRequestOf}
use Rattle.http_frame.specs.declared.errors.FrameError.{FrameError}
use Rattle.http_frame.specs.declared.errors.FrameFault.{FrameFault}
use Rattle.http_frame.specs.declared.errors.FrameFault.TheVariants as faults
use Rattle.http_frame.specs.declared.errors.Step.{Step}
use Rattle.http_frame.specs.declared.errors.Step.TheVariants as steps
use Rattle.http_frame.specs.declared.messages.Request.{Request}
use Rattle.http_frame.specs.declared.messages.RequestHead.{RequestHead}
use Rattle.mm_base.specs.Disk.{DiskView}
use Rattle.command_ends.specs.Causes.{Text, status_of_refusal}
use Rattle.command_ends.specs.Readings.{Done, Judges}
use Rattle.command_ends.specs.Stops.{IsInput, StopsAtFile, StopsReading}
use Rattle.command_ends.specs.inside.Stops.{RefusesBy}
use Rattle.command_ends.specs.declared.cause.Cause.{Cause}
use Rattle.command_ends.specs.declared.cause.Cause.TheVariants.{Refused}
use Rattle.command_ends.specs.declared.cause.Refusal.{Refusal}
use Rattle.command_ends.specs.declared.cause.Refusal.TheVariants.{BadInput}
use Rattle.command_ends.proofs.ReadingLemmas.{AreAlike, IsJudgement, judged_stopped, stops_at}
use Rattle.command_stores.specs.Requests.{IsNoRequest, IsOneRequest, RefusesRequest, RequestVerdict}
use Rattle.command_stores.specs.Requests.{number_of}
use Rattle.command_stores.specs.Requests.{reading_request}
use Rattle.command_stores.specs.declared.request_file.RequestError.{RequestError}
use Rattle.command_stores.specs.declared.request_file.RequestError.TheVariants as errors

-- a reader that has the text, and has returned nothing
abbrev pub started : List ℕ → Frames
started text = record { unread = text; ended = false; failed = None }

-- the text begins with a request of the head `head`, and `left` follows
pub record Gives (text left : List ℕ) (head : RequestHead) : Type 0 where
  pub request : Request
  pub is : IsRequestOf request
  pub head_is : head ≡ request.head
  pub split : text ≡ request.bytes ++ left

gives_of : (text : List ℕ) (new : Frames) (head : RequestHead) (whole : Result (Step Request) FrameFault)
    → NextSays request_form (started text) whole new → Ok (steps.Message head) ≡ head_alone whole
    → Gives text new.unread head
gives_of text new head (Ok (steps.Message m)) says e = record {
  request = m;
  is = record { tree = says.begins.tree; is = says.begins.is; says = says.begins.says };
  head_is = cc e;
  split = says.unread;
}
gives_of text new head (Ok steps.More) says e = absurd (cc e)
gives_of text new head (Err (faults.Frame fault)) says e = absurd (cc e)
gives_of text new head (Err faults.OutOfMemory) says e = absurd (cc e)

more_of : (text : List ℕ) (new : Frames) (whole : Result (Step Request) FrameFault)
    → NextSays request_form (started text) whole new → Ok steps.More ≡ head_alone whole
    → MoreCause request_form false text
more_of text new (Ok (steps.Message m)) says e = absurd (cc e)
more_of text new (Ok steps.More) says e = says.1
more_of text new (Err (faults.Frame fault)) says e = absurd (cc e)
more_of text new (Err faults.OutOfMemory) says e = absurd (cc e)

fault_cause : (text : List ℕ) (fault : FrameError) (failed : Option FrameError) → failed ≡ None
    → (failed ≡ Some fault) ⊎ ((failed ≡ None) × FaultCause request_form false text fault)
    → FaultCause request_form false text fault
fault_cause text fault failed none (inl e) = absurd (let no : None ≡ Some fault = sym none ∙ e in cc no)
fault_cause text fault failed none (inr p) = p.1

fault_of : (text : List ℕ) (new : Frames) (fault : FrameError) (whole : Result (Step Request) FrameFault)
    → NextSays request_form (started text) whole new → Err (faults.Frame fault) ≡ head_alone whole
    → FaultCause request_form false text fault
fault_of text new fault (Ok (steps.Message m)) says e = absurd (cc e)
fault_of text new fault (Ok steps.More) says e = absurd (cc e)
fault_of text new fault (Err (faults.Frame other)) says e =
    let same : other ≡ fault = cc e in
    subst (λ (k : FrameError). FaultCause request_form false text k) same (fault_cause text other None refl says.cause)
fault_of text new fault (Err faults.OutOfMemory) says e = absurd (cc e)

-- where the unread bytes begin with a request, the reader gives its head
abbrev pub First : Frames → Result (Step RequestHead) FrameFault → Frames → Type 0
First old result new = (bytes after : List ℕ) (h : Head) → IsRequest bytes h → old.unread ≡ bytes ++ after
    → old.failed ≡ None → GivesHead h after result new

none_of : (text : List ℕ) (result : Result (Step RequestHead) FrameFault) (new : Frames)
    → First (started text) result new → ((h : Head) → GivesHead h [] result new → ⊥) → IsNoRequest text
none_of text result new first out = λ head one.
    out one.is.tree
    (first one.request.bytes [] one.is.tree one.is.is (sym one.whole ∙ sym (append-nil one.request.bytes)) refl)

module _ (text : List ℕ) (old new : Frames) (result : Result (Step RequestHead) FrameFault) (began : old ≡ started text)
    (says : NextHeadSays old result new) (first : First old result new) where
  says_here : NextHeadSays (started text) result new
  says_here = subst (λ (f : Frames). NextHeadSays f result new) began says

  first_here : First (started text) result new
  first_here = subst (λ (f : Frames). First f result new) began first

  given : (head : RequestHead) → result ≡ Ok (steps.Message head) → Gives text new.unread head
  given head is = gives_of text new head says_here.whole says_here.says (sym is ∙ says_here.alone)

  -- the reader gives a message, and nothing follows
  pub one_request : (head : RequestHead) → result ≡ Ok (steps.Message head) → new.unread ≡ [] → IsOneRequest text head
  one_request head is empty =
      let g = given head is in record {
        request = g.request;
        is = g.is;
        whole = sym (g.split ∙ ap (λ l. g.request.bytes ++ l) empty ∙ append-nil g.request.bytes);
        head_is = g.head_is;
      }

  -- the reader gives a message, and bytes follow
  pub other_bytes : (head : RequestHead) → result ≡ Ok (steps.Message head) → (new.unread ≡ [] → ⊥)
      → RefusesRequest text errors.NotOne
  other_bytes head is some =
      let g = given head is in
      let out = λ (h : Head) (gives : GivesHead h [] result new).
      some ((subst (λ (r : Result (Step RequestHead) FrameFault). GivesHead h [] r new) is gives).1) in
      (none_of text result new first_here out, inl (g.request, new.unread, g.is, g.split))

  pub more_needed : result ≡ Ok steps.More → RefusesRequest text errors.NotOne
  more_needed is =
      let out = λ (h : Head) (gives : GivesHead h [] result new).
      subst (λ (r : Result (Step RequestHead) FrameFault). GivesHead h [] r new) is gives in (
        none_of text result new first_here out,
        inr (more_of text new says_here.whole says_here.says (sym is
            ∙ says_here.alone)),
      )

  pub faulty : (fault : FrameError) → result ≡ Err (faults.Frame fault) → RefusesRequest text (errors.Frame fault)
  faulty fault is =
      let out = λ (h : Head) (gives : GivesHead h [] result new).
      subst (λ (r : Result (Step RequestHead) FrameFault). GivesHead h [] r new) is gives in (
        none_of text result new first_here out,
        fault_of text new fault says_here.whole says_here.says (sym is
            ∙ says_here.alone),
      )

pub empty_list : (xs : List ℕ) → (length xs == 0) ≡ true → xs ≡ []
empty_list [] e = refl
empty_list (x ∷ xs) e = absurd (let long = (Decides-eqb (length (x ∷ xs)) 0).0 e in omega (arith, long))

pub some_list : (xs : List ℕ) → (length xs == 0) ≡ false → xs ≡ [] → ⊥
some_list xs e none = let no : true ≡ false = sym (ap (λ (l : List ℕ). length l == 0) none) ∙ e in cc no

-- a refusal of a request has the status 4
request_status : (name text : List ℕ) (refusal : Refusal) → RequestVerdict name text (Some refusal)
    → status_of_refusal refusal ≡ 4
request_status name text refusal says = ap status_of_refusal says.3

no_head : (text : List ℕ) (e : RequestError) (head : RequestHead) → e ≢ errors.OutOfMemory → RefusesRequest text e
    → IsOneRequest text head → ⊥
no_head text (errors.Frame fault) head other refused one = refused.0 head one
no_head text errors.NotOne head other refused one = refused.0 head one
no_head text errors.OutOfMemory head other refused one = other refl

request_alike : (name text : List ℕ) (a b : Option Refusal) → RequestVerdict name text a → RequestVerdict name text b
    → AreAlike a b
request_alike name text None None x y = tt
request_alike name text None (Some b) x y = no_head text y.0 x.0 y.1 y.2 x.1
request_alike name text (Some a) None x y = no_head text x.0 y.0 x.1 x.2 y.1
request_alike name text (Some a) (Some b) x y =
    request_status name text a x ∙ sym (request_status name text b y)

-- a request's text is accepted, or refused with one status
pub judges_request : (name text : List ℕ) → IsJudgement (RequestVerdict name text)
judges_request name text = record {
  no_words = λ refusal says two. let four = request_status name text refusal says in omega arith;
  alike = request_alike name text;
}

pub request_refused : (name text : List ℕ) (error : RequestError) (cause : Cause) → error ≢ errors.OutOfMemory
    → RefusesRequest text error → cause ≡ Refused (BadInput name (number_of error) 0)
    → RefusesBy (RequestVerdict name text) cause
request_refused name text error cause other refused is =
    inr (BadInput name (number_of error) 0, is, (error, other, refused, refl))

pub request_at_file : (name : Text) (old new : DiskView) (cause : Cause) → StopsAtFile name old new cause
    → StopsReading (reading_request name Done) old new cause
request_at_file name old new cause stops =
    stops_at name (λ text. Judges (RequestVerdict name text) (Done text)) old new cause stops

pub request_judged : (name : Text) (old new : DiskView) (text : List ℕ) (cause : Cause)
    → IsInput old.files name text → RefusesBy (RequestVerdict name text) cause
    → StopsReading (reading_request name Done) old new cause
request_judged name old new text cause input refused =
    judged_stopped {T = List ℕ} old new (RequestVerdict name) name text (Err cause) input
    (λ refusal says three. let four = request_status name text refusal says in omega arith) refused
