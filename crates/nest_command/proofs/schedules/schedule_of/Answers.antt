use Rattle.std.proofs.Common.{subst}
use Rattle.command_ends.specs.Causes.{Text}
use Rattle.command_ends.specs.Stops.{RefusesText}
use Rattle.nest_command.specs.Inputs.{schedule_refusal}
use Rattle.nest_command.proofs.InputLemmas.{schedule_accepted}
use Rattle.nest_command.proofs.schedules.schedule_of.Goals as goal

pub returns-in-Ok-clause-refused : goal.returns-in-Ok-clause-refused
returns-in-Ok-clause-refused c = λ bytes has. schedule_accepted c.args.name.now bytes (c.in-Ok.ensures.exact bytes has)

pub returns-in_ok-from_text-in-Err-clause-refused : goal.returns-in_ok-from_text-in-Err-clause-refused
returns-in_ok-from_text-in-Err-clause-refused c = λ bytes has.
    subst (λ (name : Text). RefusesText (schedule_refusal name bytes) c.schedule_cause.result)
    c.in_ok-from_text-in-Err.ensures (c.schedule_cause.ensures bytes (c.in-Err.ensures.exact bytes has))
