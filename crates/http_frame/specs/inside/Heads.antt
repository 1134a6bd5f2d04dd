-- For proofs alone: what each result of reading a head says.
use Rattle.std.specs.Prelude.{◌≡◌, ℕ, List, Option, Some, None, Ok, Err}
use Rattle.http_frame.specs.Forms.{Form}
use Rattle.http_frame.specs.Window.{IsBelow, HasAllLines, HasAllBytes}
use Rattle.http_frame.specs.declared.errors.FrameError.{FrameError}
use Rattle.http_frame.specs.declared.errors.FrameError.TheVariants.{BadHead, HeadTooLong, TooManyHeaders, BadLength}
use Rattle.http_frame.specs.declared.errors.FrameError.TheVariants.{BadCoding, BadChunk, BodyTooLong, Refused}
use Rattle.http_frame.specs.declared.head.HeadStep.{HeadStep}
use Rattle.http_frame.specs.declared.head.HeadStep.TheVariants as steps
use Rattle.http_frame.specs.Heads.{IsHeadRead, AwaitsHead, HeadFault}

-- The limit that the bytes reach, if they reach one.
abbrev pub LimitCause : List ℕ → Option FrameError → Type 0
LimitCause bytes (Some BadHead) = ⊥
LimitCause bytes (Some HeadTooLong) = HasAllBytes 102 bytes
LimitCause bytes (Some TooManyHeaders) = HasAllLines 102 bytes
LimitCause bytes (Some BadLength) = ⊥
LimitCause bytes (Some BadCoding) = ⊥
LimitCause bytes (Some BadChunk) = ⊥
LimitCause bytes (Some BodyTooLong) = ⊥
LimitCause bytes (Some Refused) = ⊥
LimitCause bytes None = IsBelow 102 bytes

module _ {Tree Said Message : Type 0} (form : Form Tree Said Message) where
  -- What the result says of the head `h`, of `len` bytes, with which the bytes begin.
  abbrev pub SaysHead : Tree → ℕ → HeadStep Said → Type 0
  SaysHead h len (steps.Head r) = (form.rule h ≡ Ok r.framing) × (r.head ≡ form.said r.framing h) × (r.len ≡ len)
  SaysHead h len steps.More = ⊥
  SaysHead h len (steps.Fault e) = form.rule h ≡ Err e

  -- What each result of reading a head says of the bytes.
  abbrev pub HeadCause : List ℕ → HeadStep Said → Type 0
  HeadCause bytes (steps.Head r) = IsHeadRead form bytes r.len r.framing r.head
  HeadCause bytes steps.More = AwaitsHead form bytes
  HeadCause bytes (steps.Fault e) = HeadFault form bytes e
