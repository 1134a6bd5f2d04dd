-- For proofs alone: where the reading of a body may go on.
use Rattle.std.specs.Prelude.{ℕ, List}
use Rattle.http_frame.specs.Chunks.{StandsAt}
use Rattle.http_frame.specs.declared.framing.Framing.{Framing}
use Rattle.http_frame.specs.declared.framing.Framing.TheVariants.{Length, Chunked, ToEnd}
use Rattle.http_frame.specs.Bodies.{most}

-- Reading a body of this framing may go on at `place`.
abbrev pub MayGoOn : Framing → List ℕ → ℕ → Type 0
MayGoOn (Length n) bytes place = Unit {0}
MayGoOn Chunked bytes place = StandsAt most bytes place
MayGoOn ToEnd bytes place = Unit {0}
