-- What a serving answers, from what its parts answered.
use Rattle.std.specs.Prelude.{◌≤◌, ℕ, ◌+◌, Result, Ok, Err}
use Rattle.mm_base.specs.declared.errors.EndError.{EndError}
use Rattle.mm_base.specs.declared.errors.EndError.TheVariants as refusals
use Rattle.replay_server.specs.declared.ends.ConnEnd.{ConnEnd}
use Rattle.replay_server.specs.declared.ends.ConnEnd.TheVariants.{Closed, BadRequest, LinkFault, Full, OutOfMemory}
use Rattle.replay_server.specs.declared.ends.Served.{Served}
use Rattle.replay_server.specs.declared.ends.ServeError.{ServeError}
use Rattle.replay_server.specs.declared.ends.ServeError.TheVariants as errors
use Rattle.replay_server.specs.Servings.{with_end}

abbrev pub total : Served → ℕ
total n = ((n.closed + n.bad) + n.broken) + n.full

-- at most `n` ends are counted, and it isn't the port that couldn't be listened at
abbrev pub IsTally : ℕ → Result Served ServeError → Type 0
IsTally most (Ok n) = total n ≤ most
IsTally most (Err errors.Listen) = ⊥
IsTally most (Err errors.Accept) = Unit {0}
IsTally most (Err errors.OutOfMemory) = Unit {0}

-- a refusal of the port in accepting or finishing
abbrev pub refusal_of : EndError → ServeError
refusal_of refusals.Failed = errors.Accept
refusal_of refusals.OutOfMemory = errors.OutOfMemory

-- the answer of those behind it, with the end of a connection
abbrev pub ended : ConnEnd → Result Served ServeError → Result Served ServeError
ended OutOfMemory rest = Err errors.OutOfMemory
ended Closed (Ok n) = Ok (with_end Closed n)
ended BadRequest (Ok n) = Ok (with_end BadRequest n)
ended LinkFault (Ok n) = Ok (with_end LinkFault n)
ended Full (Ok n) = Ok (with_end Full n)
ended Closed (Err e) = Err e
ended BadRequest (Err e) = Err e
ended LinkFault (Err e) = Err e
ended Full (Err e) = Err e

-- and with what finishing it answered
abbrev pub tallied : Result Unit EndError → Result Served ServeError → Result Served ServeError
tallied (Ok done) rest = rest
tallied (Err refusals.OutOfMemory) rest = Err errors.OutOfMemory
tallied (Err refusals.Failed) (Ok n) = Err errors.Accept
tallied (Err refusals.Failed) (Err e) = Err e
