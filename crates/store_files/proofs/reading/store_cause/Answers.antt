use Rattle.store_files.proofs.StoreLemmas.{store_refused}
use Rattle.store_files.proofs.reading.store_cause.Goals as goal

pub returns-in_default : goal.returns-in_default
returns-in_default c = λ may text says.
    store_refused may c.args.name text c.args.error _ c.in_default.not-OutOfMemory says
    (cc (c.number.ensures, c.place.ensures))
