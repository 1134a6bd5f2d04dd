-- What requests and responses have in common, so that reading them is defined once: a form of heads, and what a head
-- says.
use Rattle.std.specs.Prelude.{◌==◌, ◌||◌, ℕ, ◌+◌, Bool, true, false, List, [], ◌∷◌, ◌++◌, map, slice_get, Result, codes}
use Rattle.std.specs.Str.{bytes_eq}
use Rattle.httparse.specs.Grammar.{RequestHead as Head, IsRequestHead, print_request, MayBecomeRequest}
use Rattle.httparse.specs.Grammar.{ResponseHead as Answer, IsResponseHead, print_response, MayBecomeResponse}
use Rattle.httparse.specs.Grammar.{status_code}
use Rattle.httparse.specs.Spans.{name_and_value}
use Rattle.http_frame.specs.Fields.{values_of, has_close}
use Rattle.http_frame.specs.Framing.{request_framing, response_framing}
use Rattle.http_frame.specs.declared.errors.FrameError.{FrameError}
use Rattle.http_frame.specs.declared.framing.Framing.{Framing}
use Rattle.http_frame.specs.declared.framing.Framing.TheVariants.{Length, Chunked, ToEnd}
use Rattle.http_frame.specs.declared.messages.RequestHead.{RequestHead}
use Rattle.http_frame.specs.declared.messages.Request.{Request}
use Rattle.http_frame.specs.declared.messages.ResponseHead.{ResponseHead}
use Rattle.http_frame.specs.declared.messages.Response.{Response}

-- A form of messages. `Tree` is a head as the grammar has it, `Said` what a head says to a caller, `Message` what a
-- caller is given.
pub record Form (Tree Said Message : Type 0) : Type 1 where
  -- A head as its bytes.
  pub print : Tree → List ℕ
  -- It is a head of the grammar.
  pub Is : Tree → Type 0
  -- Where the body ends, or why the message is refused.
  pub rule : Tree → Result Framing FrameError
  -- What a head says.
  pub said : Framing → Tree → Said
  -- Some continuation of the bytes may begin with a head, as far as the parser of heads tells.
  pub May : List ℕ → Type 0
  -- What a message's head says.
  pub head : Message → Said
  -- All bytes of a message.
  pub bytes : Message → List ℕ

-- The request line: method, target and version, with a space between.
abbrev pub request_line : List ℕ → List ℕ → ℕ → List ℕ
request_line method target minor = (((method ++ 32 ∷ []) ++ target) ++ codes " HTTP/1.") ++ (48 + minor) ∷ []

-- What a request's head says, by its parts. The first Host field and the first User-Agent field count.
abbrev pub request_said : List ℕ → List ℕ → ℕ → List (List ℕ) → List (List ℕ) → List (List ℕ) → RequestHead
request_said method target minor hosts agents connections = record {
  line = request_line method target minor;
  host = slice_get hosts 0;
  agent = slice_get agents 0;
  head_only = bytes_eq method (codes "HEAD");
  closes = minor == 0 || has_close connections;
}

-- What a request's head says.
abbrev pub said_of_request : Head → RequestHead
said_of_request h =
    let fields = map name_and_value h.fields in
    request_said h.method h.target h.minor (values_of (codes "host") fields) (values_of (codes "user-agent") fields)
    (values_of (codes "connection") fields)

-- The body ends where the input ends.
abbrev pub ends_late : Framing → Bool
ends_late (Length n) = false
ends_late Chunked = false
ends_late ToEnd = true

-- What a response's head says, by its parts.
abbrev pub response_said : Framing → ℕ → List (List ℕ) → ResponseHead
response_said framing status connections = record {
  status = status;
  closes = ends_late framing || has_close connections;
}

-- What a response's head says.
abbrev pub said_of_response : Framing → Answer → ResponseHead
said_of_response framing h = response_said framing (status_code h)
    (values_of (codes "connection") (map name_and_value h.fields))

-- The form of requests.
abbrev pub request_form : Form Head RequestHead Request
request_form = record {
  print = print_request;
  Is = IsRequestHead;
  rule = request_framing;
  said = λ framing h. said_of_request h;
  May = MayBecomeRequest;
  head = λ (m : Request). m.head;
  bytes = λ (m : Request). m.bytes;
}

-- The form of responses to a HEAD request (`to_head`), or to another.
abbrev pub response_form : Bool → Form Answer ResponseHead Response
response_form to_head = record {
  print = print_response;
  Is = IsResponseHead;
  rule = response_framing to_head;
  said = said_of_response;
  May = MayBecomeResponse;
  head = λ (m : Response). m.head;
  bytes = λ (m : Response). m.bytes;
}
