-- Requests of which a reader returns the heads alone.
use Rattle.std.specs.Prelude.{◌≡◌, ℕ, List, Result, Ok, Err}
use Rattle.httparse.specs.Grammar.{RequestHead as Head}
use Rattle.http_frame.specs.Forms.{request_form, said_of_request}
use Rattle.http_frame.specs.Frames.{Frames, NextSays}
use Rattle.http_frame.specs.declared.errors.Step.{Step}
use Rattle.http_frame.specs.declared.errors.Step.TheVariants as steps
use Rattle.http_frame.specs.declared.errors.FrameFault.{FrameFault}
use Rattle.http_frame.specs.declared.errors.FrameFault.TheVariants as faults
use Rattle.http_frame.specs.declared.messages.Request.{Request}
use Rattle.http_frame.specs.declared.messages.RequestHead.{RequestHead}

-- The result of `next`, without the bytes of its message.
abbrev pub head_alone : Result (Step Request) FrameFault → Result (Step RequestHead) FrameFault
head_alone (Ok (steps.Message m)) = Ok (steps.Message m.head)
head_alone (Ok steps.More) = Ok steps.More
head_alone (Err e) = Err e

-- The result and the reader after it are those of `next`, but for the message's bytes.
pub record NextHeadSays (old : Frames) (result : Result (Step RequestHead) FrameFault) (new : Frames) : Type 0 where
  pub whole : Result (Step Request) FrameFault
  pub says : NextSays request_form old whole new
  pub alone : result ≡ head_alone whole

-- The result is the head of the request `h`, and `after` is left; or out of memory.
abbrev pub GivesHead : Head → List ℕ → Result (Step RequestHead) FrameFault → Frames → Type 0
GivesHead h after (Ok (steps.Message head)) new = (head ≡ said_of_request h) × (new.unread ≡ after)
GivesHead h after (Ok steps.More) new = ⊥
GivesHead h after (Err (faults.Frame e)) new = ⊥
GivesHead h after (Err faults.OutOfMemory) new = Unit {0}
