use Rattle.command_stores.proofs.RequestLemmas.{request_refused}
use Rattle.command_stores.proofs.request_file.request_cause.Goals as goal

pub returns-in_default : goal.returns-in_default
returns-in_default c = λ text refused.
    request_refused c.args.name text c.args.error _ c.in_default.not-OutOfMemory refused (cc (c.number.ensures))
