-- The text of a request's file.
use Rattle.std.specs.Prelude.{◌≡◌, ◌≢◌, ◌⊎◌, ℕ, false, List, ◌++◌, Option, Some, None}
use Rattle.http_frame.specs.Errors as frames
use Rattle.http_frame.specs.Forms.{request_form}
use Rattle.http_frame.specs.Frames.{FaultCause, MoreCause}
use Rattle.http_frame.specs.Runs.{IsRequestOf}
use Rattle.http_frame.specs.declared.messages.Request.{Request}
use Rattle.http_frame.specs.declared.messages.RequestHead.{RequestHead}
use Rattle.command_ends.specs.Causes.{Text}
use Rattle.command_ends.specs.Readings.{Reading, reading_judged}
use Rattle.command_ends.specs.declared.cause.Refusal.{Refusal}
use Rattle.command_ends.specs.declared.cause.Refusal.TheVariants.{BadInput}
use Rattle.command_stores.specs.declared.request_file.RequestError.{RequestError}
use Rattle.command_stores.specs.declared.request_file.RequestError.TheVariants.{Frame, NotOne, OutOfMemory}

-- The text is one whole request, with the head `head`.
pub record IsOneRequest (text : List ℕ) (head : RequestHead) : Type 0 where
  pub request : Request
  pub is : IsRequestOf request
  pub whole : request.bytes ≡ text
  pub head_is : head ≡ request.head

-- the text isn't one whole request
abbrev pub IsNoRequest : List ℕ → Type 0
IsNoRequest text = (head : RequestHead) → IsOneRequest text head → ⊥

-- the text begins with a request and bytes follow, or it lacks bytes of a request
abbrev pub HasOthers : List ℕ → Type 0
HasOthers text =
    ((request : Request) × (after : List ℕ) × IsRequestOf request × (text ≡ request.bytes ++ after))
    ⊎ MoreCause request_form false text

-- why the text isn't accepted: the reader's cause, or it isn't one whole request
abbrev pub RefusesRequest : List ℕ → RequestError → Type 0
RefusesRequest text (Frame e) = IsNoRequest text × FaultCause request_form false text e
RefusesRequest text NotOne = IsNoRequest text × HasOthers text
RefusesRequest text OutOfMemory = Unit {0}

-- the number of the refusal, or 0 for out of memory
abbrev pub number_of : RequestError → ℕ
number_of (Frame e) = frames.number_of e
number_of NotOne = 9
number_of OutOfMemory = 0

-- The text is one whole request, or it is refused. The refusal names the file and the number of the error, and no
-- place.
abbrev pub RequestVerdict : Text → List ℕ → Option Refusal → Type 0
RequestVerdict name text None = (head : RequestHead) × IsOneRequest text head
RequestVerdict name text (Some refusal) =
    (e : RequestError) × (e ≢ OutOfMemory) × RefusesRequest text e × (refusal ≡ BadInput name (number_of e) 0)

-- The file `name` is read, whose text must be one request.
abbrev pub reading_request : {A : Type 0} → Text → (List ℕ → Reading A) → Reading A
reading_request name next = reading_judged (RequestVerdict name) name next
