-- A reader of messages: what contracts see of it, and what each result of `next` says.
use Rattle.std.specs.Prelude.{◌≡◌, ◌⊎◌, ℕ, Bool, List, ◌++◌, drop, Option, Some, None, Result}
use Rattle.std.specs.Prelude.{Ok, Err}
use Rattle.http_frame.specs.Forms.{Form}
use Rattle.http_frame.specs.Heads.{AwaitsHead, IsHeadRead, HeadFault}
use Rattle.http_frame.specs.Bodies.{BodyCause}
use Rattle.http_frame.specs.Messages.{IsMessage, MayStop}
use Rattle.http_frame.specs.declared.body.BodyStep.{BodyStep}
use Rattle.http_frame.specs.declared.body.BodyStep.TheVariants as bodies
use Rattle.http_frame.specs.declared.framing.Framing.{Framing}
use Rattle.http_frame.specs.declared.errors.Step.{Step}
use Rattle.http_frame.specs.declared.errors.Step.TheVariants as steps
use Rattle.http_frame.specs.declared.errors.FrameFault.{FrameFault}
use Rattle.http_frame.specs.declared.errors.FrameFault.TheVariants as faults
use Rattle.http_frame.specs.declared.errors.FrameError.{FrameError}
use Rattle.http_frame.specs.declared.errors.FrameError.TheVariants.{BadHead, HeadTooLong, TooManyHeaders, BadLength}
use Rattle.http_frame.specs.declared.errors.FrameError.TheVariants.{BadCoding, BadChunk, BodyTooLong, Refused}

-- What contracts see of a reader: the bytes that no message has taken, whether the input has ended, and the error that
-- was returned, if one was.
pub record Frames : Type 0 where
  pub unread : List ℕ
  pub ended : Bool
  pub failed : Option FrameError

-- No error was returned, and the reader is as it was.
pub record StaysOpen (old new : Frames) : Type 0 where
  pub was : old.failed ≡ None
  pub same : new ≡ old

-- The bytes begin with the message `text`, whose head says `head`, and what follows may follow a message of its
-- framing.
pub record BeginsMessage {Tree Said Message : Type 0} (form : Form Tree Said Message) (ended : Bool) (bytes : List ℕ)
    (head : Said) (text : List ℕ) : Type 0 where
  pub tree : Tree
  pub is : IsMessage form text tree
  pub says : head ≡ form.said is.framing tree
  pub after : List ℕ
  pub split : bytes ≡ text ++ after
  pub stops : MayStop is.framing ended after

-- The bytes begin with a head within the limits, and reading its body gives `step`.
pub record HasBody {Tree Said Message : Type 0} (form : Form Tree Said Message) (ended : Bool) (bytes : List ℕ)
    (step : BodyStep) : Type 0 where
  pub len : ℕ
  pub framing : Framing
  pub head : Said
  pub read : IsHeadRead form bytes len framing head
  pub body : BodyCause ended framing (drop len bytes) step

-- The message `m` was at the front of the unread bytes, and was taken off.
pub record TakesMessage {Tree Said Message : Type 0} (form : Form Tree Said Message) (old : Frames) (m : Message)
    (new : Frames) : Type 0 where
  pub was : old.failed ≡ None
  pub is : new.failed ≡ None
  pub ended : new.ended ≡ old.ended
  pub begins : BeginsMessage form old.ended old.unread (form.head m) (form.bytes m)
  pub unread : old.unread ≡ form.bytes m ++ new.unread

module _ {Tree Said Message : Type 0} (form : Form Tree Said Message) where
  -- Why more bytes are needed: there is no whole head, or a head and less than its body.
  abbrev pub MoreCause : Bool → List ℕ → Type 0
  MoreCause ended bytes = AwaitsHead form bytes ⊎ ((place : ℕ) × HasBody form ended bytes (bodies.More place))

  -- Why the bytes begin with no message, and never will, for each error.
  abbrev pub FaultCause : Bool → List ℕ → FrameError → Type 0
  FaultCause ended bytes BadHead = HeadFault form bytes BadHead
  FaultCause ended bytes HeadTooLong = HeadFault form bytes HeadTooLong
  FaultCause ended bytes TooManyHeaders = HeadFault form bytes TooManyHeaders
  FaultCause ended bytes BadLength = HeadFault form bytes BadLength
  FaultCause ended bytes BadCoding = HeadFault form bytes BadCoding
  FaultCause ended bytes BadChunk = HasBody form ended bytes bodies.Bad
  FaultCause ended bytes BodyTooLong = HasBody form ended bytes bodies.TooLong
  FaultCause ended bytes Refused = HeadFault form bytes Refused

  -- The reader returns the error `e` and keeps it. It had returned the error before, or the unread bytes are its cause.
  -- No bytes are taken.
  pub record Fails (old : Frames) (e : FrameError) (new : Frames) : Type 0 where
    pub unread : new.unread ≡ old.unread
    pub ended : new.ended ≡ old.ended
    pub failed : new.failed ≡ Some e
    pub cause : (old.failed ≡ Some e) ⊎ ((old.failed ≡ None) × FaultCause old.ended old.unread e)

  -- What each result of `next` says of the reader before (`old`) and after (`new`).
  abbrev pub NextSays : Frames → Result (Step Message) FrameFault → Frames → Type 0
  NextSays old (Ok (steps.Message m)) new = TakesMessage form old m new
  NextSays old (Ok steps.More) new = StaysOpen old new × MoreCause old.ended old.unread
  NextSays old (Err (faults.Frame e)) new = Fails old e new
  NextSays old (Err faults.OutOfMemory) new = StaysOpen old new

  -- The result is a message of `bytes`, or out of memory.
  abbrev pub GivesBytes : List ℕ → Result (Step Message) FrameFault → Type 0
  GivesBytes bytes (Ok (steps.Message m)) = form.bytes m ≡ bytes
  GivesBytes bytes (Ok steps.More) = ⊥
  GivesBytes bytes (Err (faults.Frame e)) = ⊥
  GivesBytes bytes (Err faults.OutOfMemory) = Unit {0}

-- The result is the error `e`, or out of memory.
abbrev pub GivesFault : {Message : Type 0} → FrameError → Result (Step Message) FrameFault → Type 0
GivesFault e (Ok step) = ⊥
GivesFault e (Err (faults.Frame f)) = f ≡ e
GivesFault e (Err faults.OutOfMemory) = Unit {0}

-- The result is that more bytes are needed, or out of memory.
abbrev pub GivesMore : {Message : Type 0} → Result (Step Message) FrameFault → Type 0
GivesMore (Ok (steps.Message m)) = ⊥
GivesMore (Ok steps.More) = Unit {0}
GivesMore (Err (faults.Frame e)) = ⊥
GivesMore (Err faults.OutOfMemory) = Unit {0}
