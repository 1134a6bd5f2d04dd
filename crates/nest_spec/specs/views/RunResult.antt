-- The result of a run as contracts see it.
use Rattle.nest_spec.specs.Nests.{RunLists}
use Rattle.nest_spec.specs.RunViews.{all_named}
use Rattle.nest_spec.specs.declared.run_result.RunResult.TheInside.{Inside}

-- The fates, and the names and entries of the logs.
abbrev pub result_view : Inside → RunLists
result_view r = record { fates = r.fates.items; logs = all_named r.logs.items }
