use Rattle.std.proofs.Common.{sym}
use Rattle.command_stores.proofs.NameLemmas.{name_free, name_taken}
use Rattle.command_stores.proofs.names.check_names.Goals as goal

pub returns-in_ok-from_text-in-Some : goal.returns-in_ok-from_text-in-Some
returns-in_ok-from_text-in-Some c =
    name_taken _ _ c.in-Some.name.now _ (sym c.in-Some.ensures)
    (cc (c.taken.ensures, c.in_ok-from_text-in-Some.ensures))

pub returns-in-None : goal.returns-in-None
returns-in-None c = name_free _ _ (sym c.in-None.ensures)
