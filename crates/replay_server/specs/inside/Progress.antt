-- How far a session has come.
use Rattle.std.specs.Prelude.{◌≡◌, ◌⊎◌, ◌≤◌, ℕ, ◌+◌, ◌-◌, ◌*◌, ◌++◌, false, List, length, All, Option, Some, None}
use Rattle.http_frame.specs.Runs.{BeginsWithNone}
use Rattle.mm_base.specs.declared.errors.EndError.{EndError}
use Rattle.mm_base.specs.declared.errors.EndError.TheVariants.{Failed, OutOfMemory as NoMemory}
use Rattle.mm_base.specs.Link.{LinkBytes}
use Rattle.mm_base.specs.declared.read_start.ReadStart.{ReadStart}
use Rattle.record_store.specs.declared.record.Record.{Record}
use Rattle.replay_server.specs.Answers.{bad_request}
use Rattle.replay_server.specs.Sessions.{Reply, IsReplies, AllOpen, LastCloses, IsHopeless, full_text, most}
use Rattle.replay_server.specs.Links.{Passed, IfBothTold, IsPrompt, IsServed}
use Rattle.replay_server.specs.declared.ends.ConnEnd.{ConnEnd}
use Rattle.replay_server.specs.declared.ends.ConnEnd.TheVariants.{LinkFault, OutOfMemory}
use Rattle.replay_server.specs.declared.session_state.SessionState.{SessionState}

-- Requests that begin the bytes taken are answered; what was given and what is gathered make up what is due.
pub record Stand (store : List Record) (site_port : Option ℕ) (start now : Option LinkBytes) (replies : List Reply)
    (rest due gathered : List ℕ) (count : ℕ) : Type 0 where
  pub taken : List ℕ
  pub given : List ℕ
  pub starts : List ReadStart
  pub passed : IfBothTold (Passed taken given starts) start now
  pub are : IsReplies store site_port taken replies rest
  pub text : given ++ gathered ≡ due
  pub prompt : All (IsPrompt store site_port taken given) starts
  pub count_is : length taken ≡ count
  pub few : count ≤ most

-- What is due to those requests, and where the rest is hopeless the text that says so.
abbrev pub IsDue : List Reply → List ℕ → List ℕ → Type 0
IsDue replies rest due =
    ((AllOpen replies ⊎ LastCloses replies) × (due ≡ full_text replies))
    ⊎ (BeginsWithNone rest × AllOpen replies × IsHopeless rest × (due ≡ full_text replies ++ bad_request))

-- how a session ends at a refusal of its link
abbrev pub end_of : EndError → ConnEnd
end_of Failed = LinkFault
end_of NoMemory = OutOfMemory

-- A session that goes on.
pub record Progress (store : List Record) (site_port : Option ℕ) (start now : Option LinkBytes) (state : SessionState) :
    Type 0 where
  pub replies : List Reply
  pub open_ones : AllOpen replies
  pub stand : Stand store site_port start now replies state.frames.unread (full_text replies) state.gathered state.taken
  pub running : state.frames.failed ≡ None
  pub not_ended : state.frames.ended ≡ false

-- How much a session has left to do at most: each byte is still to be taken, and then to be answered. Each step
-- lowers it.
abbrev pub to_do : SessionState → ℕ
to_do state = 2 * (most - state.taken) + length state.frames.unread

-- After a step the session goes on, or ends so.
abbrev pub GoesOn : List Record → Option ℕ → Option LinkBytes → Option LinkBytes → SessionState → Option ConnEnd
    → Type 0
GoesOn store site_port start now state None = Progress store site_port start now state
GoesOn store site_port start now state (Some end) = IsServed store site_port start now end
