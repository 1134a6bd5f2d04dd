-- What the reader of requests answers, for a session.
use Rattle.std.proofs.Common.{◌≡◌, ◌∙◌, ◌<◌, arith, length, length-append, inl, inr, ℕ, Bool, true, false, List, ◌++◌}
use Rattle.std.proofs.Common.{Option, Some, None, Ok, Err, refl}
use Rattle.std.proofs.Common.{sym, ap, subst}
use Rattle.std.specs.Prelude.{◌==◌, Result, is_some}
use Rattle.std.proofs.Math.Bool.{true≢false}
use Rattle.std.proofs.lemmas.List.Sums.{count_by-le-length}
use Rattle.httparse.specs.Grammar.{RequestHead as Head, print_request}
use Rattle.http_frame.specs.Forms.{request_form}
use Rattle.http_frame.specs.Messages.{IsRequest}
use Rattle.http_frame.specs.Frames.{Frames, FaultCause, MoreCause, TakesMessage, StaysOpen, Fails, NextSays, GivesFault}
use Rattle.http_frame.specs.HeadsAlone.{head_alone, NextHeadSays, GivesHead}
use Rattle.http_frame.specs.Runs.{IsRequestOf, BeginsWithNone}
use Rattle.http_frame.proofs.WindowLemmas.{request_lines}
use Rattle.http_frame.specs.declared.messages.Request.{Request}
use Rattle.http_frame.specs.declared.messages.RequestHead.{RequestHead}
use Rattle.http_frame.specs.declared.errors.Step.{Step}
use Rattle.http_frame.specs.declared.errors.Step.TheVariants as steps
use Rattle.http_frame.specs.declared.errors.FrameFault.{FrameFault}
use Rattle.http_frame.specs.declared.errors.FrameFault.TheVariants as faults
use Rattle.http_frame.specs.declared.errors.FrameError.{FrameError}
use Rattle.http_frame.specs.declared.errors.FrameError.TheVariants.{BadHead, HeadTooLong, TooManyHeaders, BadLength}
use Rattle.http_frame.specs.declared.errors.FrameError.TheVariants.{BadCoding, BadChunk, BodyTooLong, Refused}
use Rattle.replay_server.specs.Sessions.{MayGoOn, IsHopeless}
use Rattle.replay_server.proofs.ReplyLemmas.{bad_head_in_target}

abbrev pub Answer : Type 0
Answer = Result (Step RequestHead) FrameFault

-- ---- which answer it is

abbrev head_in : RequestHead → Answer → RequestHead
head_in other (Ok (steps.Message h)) = h
head_in other (Ok steps.More) = other
head_in other (Err f) = other

abbrev pub has_head : Answer → Bool
has_head (Ok (steps.Message h)) = true
has_head (Ok steps.More) = false
has_head (Err f) = false

abbrev is_more : Answer → Bool
is_more (Ok (steps.Message h)) = false
is_more (Ok steps.More) = true
is_more (Err f) = false

abbrev error_in : FrameError → Answer → FrameError
error_in other (Ok s) = other
error_in other (Err (faults.Frame e)) = e
error_in other (Err faults.OutOfMemory) = other

abbrev has_error : Answer → Bool
has_error (Ok s) = false
has_error (Err (faults.Frame e)) = true
has_error (Err faults.OutOfMemory) = false

abbrev pub lacks_memory : Answer → Bool
lacks_memory (Ok s) = false
lacks_memory (Err (faults.Frame e)) = false
lacks_memory (Err faults.OutOfMemory) = true

pub given : (old new : Frames) (result : Answer) (head : RequestHead) → NextHeadSays old result new
    → result ≡ Ok (steps.Message head)
    → (m : Request) × (m.head ≡ head) × TakesMessage request_form old m new
given old new result head x is = go x.whole (sym x.alone ∙ is) x.says
  where
    go : (whole : Result (Step Request) FrameFault) → head_alone whole ≡ Ok (steps.Message head)
        → NextSays request_form old whole new
        → (m : Request) × (m.head ≡ head) × TakesMessage request_form old m new
    go (Ok (steps.Message m)) e says = (m, ap (head_in m.head) e, says)
    go (Ok steps.More) e says = absurd (true≢false (sym (ap has_head e)))
    go (Err f) e says = absurd (true≢false (sym (ap has_head e)))

pub waits : (old new : Frames) (result : Answer) → NextHeadSays old result new → result ≡ Ok steps.More
    → StaysOpen old new × MoreCause request_form old.ended old.unread
waits old new result x is = go x.whole (sym x.alone ∙ is) x.says
  where
    go : (whole : Result (Step Request) FrameFault) → head_alone whole ≡ Ok steps.More
        → NextSays request_form old whole new
        → StaysOpen old new × MoreCause request_form old.ended old.unread
    go (Ok (steps.Message m)) e says = absurd (true≢false (sym (ap is_more e)))
    go (Ok steps.More) e says = says
    go (Err f) e says = absurd (true≢false (sym (ap is_more e)))

pub fails : (old new : Frames) (result : Answer) (error : FrameError) → NextHeadSays old result new
    → result ≡ Err (faults.Frame error) → Fails request_form old error new
fails old new result error x is = go x.whole (sym x.alone ∙ is) x.says
  where
    go : (whole : Result (Step Request) FrameFault) → head_alone whole ≡ Err (faults.Frame error)
        → NextSays request_form old whole new
        → Fails request_form old error new
    go (Ok (steps.Message m)) e says = absurd (true≢false (sym (ap has_error e)))
    go (Ok steps.More) e says = absurd (true≢false (sym (ap has_error e)))
    go (Err (faults.Frame f)) e says = subst (λ g. Fails request_form old g new) (ap (error_in f) e) says
    go (Err faults.OutOfMemory) e says = absurd (true≢false (sym (ap has_error e)))

-- ---- what follows for a session

pub is_request : (old new : Frames) (m : Request) → TakesMessage request_form old m new → IsRequestOf m
is_request old new m x = record { tree = x.begins.tree; is = x.begins.is; says = x.begins.says }

-- a request isn't empty
some_bytes : (bytes : List ℕ) (h : Head) → IsRequest bytes h → 0 < length bytes
some_bytes bytes h r =
    let text = print_request h in
    omega (arith, request_lines h, count_by-le-length (λ b. b == 10) text, ap length r.split, length-append text r.body)

-- one that is taken off leaves fewer bytes
pub takes_bytes : (old new : Frames) (m : Request) → TakesMessage request_form old m new
    → length new.unread < length old.unread
takes_bytes old new m x =
    let split : old.unread ≡ m.bytes ++ new.unread = x.unread in
    let some : 0 < length m.bytes = some_bytes m.bytes x.begins.tree x.begins.is in
    omega (arith, some, ap length split, length-append m.bytes new.unread)

-- no request is there, where none is given
pub none_there : (old new : Frames) (result : Answer) → has_head result ≡ false
    → ((bytes after : List ℕ) (h : Head) → IsRequest bytes h → old.unread ≡ bytes ++ after → old.failed ≡ None
    → GivesHead h after result new)
    → lacks_memory result ≡ false → old.failed ≡ None → BeginsWithNone old.unread
none_there old new (Ok (steps.Message h)) headless first memory is_open = absurd (true≢false headless)
none_there old new (Ok steps.More) headless first memory is_open = λ bytes after h r e. first bytes after h r e is_open
none_there old new (Err (faults.Frame f)) headless first memory is_open = λ bytes after h r e. first bytes after h r e
    is_open
none_there old new (Err faults.OutOfMemory) headless first memory is_open = absurd (true≢false memory)

abbrev is_bad : FrameError → Bool
is_bad BadHead = true
is_bad HeadTooLong = false
is_bad TooManyHeaders = false
is_bad BadLength = false
is_bad BadCoding = false
is_bad BadChunk = false
is_bad BodyTooLong = false
is_bad Refused = false

other : (e : FrameError) → is_bad e ≡ false → e ≡ BadHead → ⊥
other e not_bad same = true≢false (sym (ap is_bad same) ∙ not_bad)

pub may_go_on : (rest : List ℕ) → MoreCause request_form false rest
    → ((e : FrameError) → FaultCause request_form false rest e → (e ≡ BadHead → ⊥) → ⊥) → MayGoOn rest
may_go_on rest more none BadHead cause = (refl, bad_head_in_target rest BadHead more refl cause)
may_go_on rest more none HeadTooLong cause = absurd (none HeadTooLong cause (other HeadTooLong refl))
may_go_on rest more none TooManyHeaders cause = absurd (none TooManyHeaders cause (other TooManyHeaders refl))
may_go_on rest more none BadLength cause = absurd (none BadLength cause (other BadLength refl))
may_go_on rest more none BadCoding cause = absurd (none BadCoding cause (other BadCoding refl))
may_go_on rest more none BadChunk cause = absurd (none BadChunk cause (other BadChunk refl))
may_go_on rest more none BodyTooLong cause = absurd (none BodyTooLong cause (other BodyTooLong refl))
may_go_on rest more none Refused cause = absurd (none Refused cause (other Refused refl))

pub may_wait : (old new : Frames) (result : Answer) → result ≡ Ok steps.More → NextHeadSays old result new
    → ((e : FrameError) → FaultCause request_form old.ended old.unread e → old.failed ≡ None
    → (e ≡ BadHead → MoreCause request_form old.ended old.unread → ⊥) → GivesFault e result)
    → old.failed ≡ None → old.ended ≡ false → MayGoOn old.unread
may_wait old new result is says faulty is_open not_ended =
    may_go_on old.unread (subst (λ ended. MoreCause request_form ended old.unread) not_ended
    (waits old new result says is).1)
    (λ e cause differ. subst (GivesFault e) is
    (faulty e (subst (λ ended. FaultCause request_form ended old.unread e) (sym not_ended) cause) is_open
    (λ same more. differ same)))

none_is_not : (o : Option FrameError) (e : FrameError) → o ≡ None → o ≡ Some e → ⊥
none_is_not o e is_open was = true≢false (ap is_some (sym was ∙ is_open))

pub is_hopeless : (old new : Frames) (error : FrameError) → Fails request_form old error new → old.failed ≡ None
    → old.ended ≡ false → IsHopeless old.unread
is_hopeless old new error x is_open not_ended = elim x.cause [
  | inl was ↦ absurd (none_is_not old.failed error is_open was)
  | inr cause ↦ (error, subst (λ ended. FaultCause request_form ended old.unread error) not_ended cause.1)
]
