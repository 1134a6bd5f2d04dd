use Rattle.command_stores.specs.inside.Values.{record_values}
use Rattle.command_stores.proofs.RecordLemmas.{pairs_refused}
use Rattle.command_stores.proofs.recording.pair_cause.Goals as goal

pub returns-in-Ok : goal.returns-in-Ok
returns-in-Ok c = λ client server pairs.
    pairs_refused (record_values c.args.job.now) client server c.args.error _ c.in_default.not-OutOfMemory pairs
    (cc (c.number.ensures, c.request.ensures, c.in-Ok.ensures, c.stream_named.ensures))
