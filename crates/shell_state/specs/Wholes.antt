-- What a direction gives for the whole list of its arrivals, beside the shells' functions.
use Rattle.std.specs.Prelude.{Bool, true, false, List, Option, Some, None}
use Rattle.shell_log.specs.declared.entry.Entry.{Entry}
use Rattle.shell_state.specs.declared.spec.DirSpec.{DirSpec}
use Rattle.shell_state.specs.Shells.{meaning}

-- it is true that there is a log
abbrev pub IsLogged : Bool → Type 0
IsLogged true = Unit {0}
IsLogged false = ⊥

-- the direction is a link's, and has a log
abbrev pub IsLink : DirSpec → Type 0
IsLink c = IsLogged (meaning c).is_logged

abbrev pub if_logged : Bool → List Entry → Option (List Entry)
if_logged true entries = Some entries
if_logged false entries = None

-- what a link logs; the other kinds have no log
abbrev pub if_link : DirSpec → List Entry → Option (List Entry)
if_link c entries = if_logged (meaning c).is_logged entries
