-- The numbers of the errors of a stream's messages.
use Rattle.std.specs.Prelude.{ℕ}
use Rattle.http_frame.specs.declared.errors.FrameError.{FrameError}
use Rattle.http_frame.specs.declared.errors.FrameError.TheVariants.{BadHead, HeadTooLong, TooManyHeaders, BadLength}
use Rattle.http_frame.specs.declared.errors.FrameError.TheVariants.{BadCoding, BadChunk, BodyTooLong, Refused}

-- The number of an error, 1 to 8.
abbrev pub number_of : FrameError → ℕ
number_of BadHead = 1
number_of HeadTooLong = 2
number_of TooManyHeaders = 3
number_of BadLength = 4
number_of BadCoding = 5
number_of BadChunk = 6
number_of BodyTooLong = 7
number_of Refused = 8
