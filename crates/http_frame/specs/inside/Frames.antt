-- For proofs alone: what a reader keeps of a message whose head was read, and what each of its steps says.
use Rattle.std.specs.Prelude.{◌≡◌, ℕ, ◌+◌, ◌≤◌, length, Bool, List, drop, take, Option, Some, None, Result}
use Rattle.std.specs.Prelude.{Ok, Err}
use Rattle.http_frame.specs.Forms.{Form}
use Rattle.http_frame.specs.Heads.{IsHeadRead}
use Rattle.http_frame.specs.Bodies.{BodyCause}
use Rattle.http_frame.specs.inside.Bodies.{MayGoOn}
use Rattle.http_frame.specs.declared.body.BodyStep.TheVariants as bodies
use Rattle.text_base.specs.declared.out_of_memory.OutOfMemory.{OutOfMemory}
use Rattle.http_frame.specs.declared.errors.FrameError.TheVariants.{BadHead, HeadTooLong, TooManyHeaders, BadLength}
use Rattle.http_frame.specs.declared.errors.FrameError.TheVariants.{BadCoding, BadChunk, BodyTooLong, Refused}
use Rattle.http_frame.specs.declared.pending.Pending.{Pending}
use Rattle.http_frame.specs.declared.pending.Outcome.{Outcome}
use Rattle.http_frame.specs.declared.pending.Outcome.TheVariants as outcomes
use Rattle.http_frame.specs.Frames.{Frames, StaysOpen, BeginsMessage, MoreCause, FaultCause, Fails}

-- The pending message is kept, and its body will be read on at `place`.
pub record KeepsPlace {Said : Type 0} (p : Pending Said) (place : ℕ) (q : Option (Pending Said)) : Type 0 where
  pub same : q ≡ Some (record { head = p.head; len = p.len; framing = p.framing; place = place })

-- What each result of reading on with a body says.
abbrev pub FinishSays : {Said : Type 0} → Bool → List ℕ → Pending Said → Option (Pending Said) → Outcome Said → Type 0
FinishSays ended bytes p q (outcomes.Message m) =
    (q ≡ None) × (m.head ≡ p.head) × (k : ℕ) × (m.len ≡ p.len + k)
    × BodyCause ended p.framing (drop p.len bytes) (bodies.Whole k)
FinishSays ended bytes p q outcomes.More = (place : ℕ) × KeepsPlace p place q
    × BodyCause ended p.framing (drop p.len bytes) (bodies.More place)
FinishSays ended bytes p q (outcomes.Fault BadHead) = ⊥
FinishSays ended bytes p q (outcomes.Fault HeadTooLong) = ⊥
FinishSays ended bytes p q (outcomes.Fault TooManyHeaders) = ⊥
FinishSays ended bytes p q (outcomes.Fault BadLength) = ⊥
FinishSays ended bytes p q (outcomes.Fault BadCoding) = ⊥
FinishSays ended bytes p q (outcomes.Fault BadChunk) = (q ≡ Some p)
    × BodyCause ended p.framing (drop p.len bytes) bodies.Bad
FinishSays ended bytes p q (outcomes.Fault BodyTooLong) = (q ≡ Some p)
    × BodyCause ended p.framing (drop p.len bytes) bodies.TooLong
FinishSays ended bytes p q (outcomes.Fault Refused) = ⊥

module _ {Tree Said Message : Type 0} (form : Form Tree Said Message) where
  -- The pending head is at the front of the unread bytes, and its body may be read on at the kept place.
  abbrev pub IsPending : List ℕ → Option (Pending Said) → Type 0
  IsPending unread None = Unit {0}
  IsPending unread (Some p) = IsHeadRead form unread p.len p.framing p.head
      × MayGoOn p.framing (drop p.len unread) p.place

  -- What each result of reading on with a message says.
  abbrev pub AdvanceSays : Bool → List ℕ → Option (Pending Said) → Result (Outcome Said) OutOfMemory → Type 0
  AdvanceSays ended bytes p (Ok (outcomes.Message m)) = (p ≡ None) × (m.len ≤ length bytes)
      × BeginsMessage form ended bytes m.head (take m.len bytes)
  AdvanceSays ended bytes p (Ok outcomes.More) = IsPending bytes p × MoreCause form ended bytes
  AdvanceSays ended bytes p (Ok (outcomes.Fault e)) = IsPending bytes p × FaultCause form ended bytes e
  AdvanceSays ended bytes p (Err e) = IsPending bytes p

  -- What each result of finding the first message says. The message stays at the front.
  abbrev pub FindSays : Frames → Result (Outcome Said) OutOfMemory → Frames → Type 0
  FindSays old (Ok (outcomes.Message m)) new =
      StaysOpen old new × (m.len ≤ length old.unread)
      × BeginsMessage form old.ended old.unread m.head (take m.len old.unread)
  FindSays old (Ok outcomes.More) new = StaysOpen old new × MoreCause form old.ended old.unread
  FindSays old (Ok (outcomes.Fault e)) new = Fails form old e new
  FindSays old (Err e) new = StaysOpen old new
