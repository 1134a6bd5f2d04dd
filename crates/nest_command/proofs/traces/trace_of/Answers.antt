use Rattle.nest_command.proofs.InputLemmas.{trace_accepted}
use Rattle.nest_command.proofs.traces.trace_of.Goals as goal

pub returns-in-Ok-clause-refused : goal.returns-in-Ok-clause-refused
returns-in-Ok-clause-refused c = trace_accepted c.args.name.now c.args.text.now c.in-Ok.ensures.exact
