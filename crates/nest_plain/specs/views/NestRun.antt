-- A run as contracts see it.
use Rattle.nest_spec.specs.Nests.{RunLists}
use Rattle.nest_plain.specs.Unwritten.{unwritten}
use Rattle.nest_plain.specs.declared.nest_run.NestRun.TheInside.{Inside}

-- The fates, and the names and entries of the logs.
abbrev pub run_view : Inside → RunLists
run_view r = record { fates = r.fates.items; logs = unwritten r.logs.items }
