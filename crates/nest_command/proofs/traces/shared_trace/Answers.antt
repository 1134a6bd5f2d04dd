use Rattle.std.proofs.Common.{rules}
use Rattle.nest_command.proofs.InputLemmas.{trace_accepted}
use Rattle.nest_command.proofs.traces.shared_trace.Goals as goal

pub returns-in_ok-copy-in-Some-clause-refused : goal.returns-in_ok-copy-in-Some-clause-refused
returns-in_ok-copy-in-Some-clause-refused c = trace_accepted c.args.name.now c.args.text.now (search rules)
