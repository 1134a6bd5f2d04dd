use Rattle.std.proofs.Common.{sym}
use Rattle.nest_command.proofs.NestLemmas.{names_free, names_taken}
use Rattle.nest_command.proofs.checks.check_outputs.Goals as goal

pub returns-in_ok-from_text-in-Some : goal.returns-in_ok-from_text-in-Some
returns-in_ok-from_text-in-Some c = names_taken _ _ c.in-Some.name.now _ (sym c.in-Some.ensures)
    (cc (c.taken.ensures, c.in_ok-from_text-in-Some.ensures))

pub returns-in-None : goal.returns-in-None
returns-in-None c = names_free _ _ (sym c.in-None.ensures)
